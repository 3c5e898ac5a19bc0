use Rattle.alg_ring_range.specs.Atoms.{tree_of_atom}
use Rattle.alg_ring_range.proofs.Adding.{same_by}
use Rattle.alg_ring_range.proofs.atoms.matches.Goals as goal

pub returns : goal.returns
returns c = same_by (tree_of_atom c.args.arena.now c.args.x) (tree_of_atom c.args.arena.now c.args.y) c.same_atom-same.result c.same_atom-same.ensures.yes c.same_atom-same.ensures.no
