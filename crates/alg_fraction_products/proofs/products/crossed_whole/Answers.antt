use Rattle.alg_build.proofs.Lines.{grows-then}
use Rattle.alg_build.proofs.Rewritings.{grows-turns, follows, turns-in}
use Rattle.alg_fraction_products.proofs.products.crossed_whole.Goals as goal

pub left_under_times-requires-clause-turns : goal.left_under_times-requires-clause-turns
left_under_times-requires-clause-turns c = turns-in _ _ _ _ _ c.in_ok-left.ensures.turns

pub then-requires : goal.then-requires
then-requires c = follows _ _ _ _ _ _ _ (grows-turns _ _ (grows-then _ _ _ c.reduced.ensures.grows c.left_under_times.ensures.grows) _ _ _ _ c.in_ok-moved.ensures.turns) (c.in_ok-r.ensures.turns _ _ c.in_ok-left.ensures.turns)

pub returns-clause-turns : goal.returns-clause-turns
returns-clause-turns c = c.in_ok-s.ensures.turns _ _ _ _ (grows-turns _ _ (grows-then _ _ _ c.reduced.ensures.grows c.left_under_times.ensures.grows) _ _ _ _ c.in_ok-moved.ensures.turns) (c.in_ok-r.ensures.turns _ _ c.in_ok-left.ensures.turns)
