use Rattle.std.proofs.Common.{rules}
use Rattle.alg_expansions.specs.Setting.{setting_of}
use Rattle.alg_ring_range.proofs.WalkLemmas.{all_parts}
use Rattle.alg_ring_range.proofs.WorkLemmas.{next_parts_works}
use Rattle.alg_ring_range.proofs.work_walk.next.Goals as goal

pub node-requires-clause-parts : goal.node-requires-clause-parts
node-requires-clause-parts c = all_parts (setting_of c.args.base.now) c.args.arena.now c.args.wanted.now c.args.found.now c.id.result c.requires.wanted c.requires.found c.requires.all (rw c.id.ensures (c.requires.room)) (rw c.id.ensures (search rules))

pub returns-then-wanted-number : goal.returns-then-wanted-number
returns-then-wanted-number c = λ o told works want.
    rw c.id.ensures at (c.node.ensures o told (next_parts_works o (setting_of c.args.base.now) c.args.arena.now c.args.wanted.now c.args.works.now c.id.result c.requires.wanted works c.id.ensures (rw c.id.ensures want)))
