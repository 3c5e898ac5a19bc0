use Rattle.std.proofs.Common.{pos, sym, subst, arith}
use Rattle.alg_num.specs.Range.{InRange}
use Rattle.alg_build.proofs.Rewritings.{grows-stands, grows-turns, follows, is-rewriting}
use Rattle.alg_group_stack.proofs.Homes.{own-stands}
use Rattle.alg_group_stack.proofs.WordLemmas.{zero-turns}
use Rattle.alg_group_stack.proofs.stack.to_one.Goals as goal

pub merged-requires-clause-small : goal.merged-requires-clause-small
merged-requires-clause-small c = subst (λ z. InRange z) (sym c.requires.none) (omega arith)

pub zero_power-requires-clause-base : goal.zero_power-requires-clause-base
zero_power-requires-clause-base c = own-stands _ _ _ _ (grows-stands _ _ c.merged.ensures.grows _ _ _ c.requires.left.atom)

pub then-requires : goal.then-requires
then-requires c = follows _ _ _ _ _ _ _ (grows-turns _ _ c.zero_power.ensures.grows _ _ _ _ c.in_ok-r.ensures.turns) (zero-turns _ _ _ _ _ _ _ _ c.merged.ensures.grows c.requires.left.atom.here c.requires.none c.in_ok-q.ensures.turns)

pub line_of-requires : goal.line_of-requires
line_of-requires c = is-rewriting _ _ _ _ _ (c.in_ok-one.ensures.turns _ _ _ _ (grows-turns _ _ c.zero_power.ensures.grows _ _ _ _ c.in_ok-r.ensures.turns) (zero-turns _ _ _ _ _ _ _ _ c.merged.ensures.grows c.requires.left.atom.here c.requires.none c.in_ok-q.ensures.turns))

pub returns-clause-proves : goal.returns-clause-proves
returns-clause-proves c = c.in_ok-line.ensures.proves _ _ _ (c.in_ok-one.ensures.turns _ _ _ _ (grows-turns _ _ c.zero_power.ensures.grows _ _ _ _ c.in_ok-r.ensures.turns) (zero-turns _ _ _ _ _ _ _ _ c.merged.ensures.grows c.requires.left.atom.here c.requires.none c.in_ok-q.ensures.turns))
