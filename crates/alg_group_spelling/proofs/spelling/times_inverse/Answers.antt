use Rattle.alg_build.proofs.Rewritings.{grows-turns, stands-over_one, turns-in}
use Rattle.alg_group_stack.proofs.Homes.{head-inverse}
use Rattle.alg_group_spelling.proofs.spelling.times_inverse.Goals as goal

pub under_one-requires : goal.under_one-requires
under_one-requires c = stands-over_one _ _ _ _ _ _ _ c.requires.right.turns (head-inverse _ _ c.requires.home)

pub times-requires-clause-left : goal.times-requires-clause-left
times-requires-clause-left c = turns-in _ _ _ _ _ (grows-turns _ _ c.under_one.ensures.grows _ _ _ _ c.requires.left.turns)

pub times-requires-clause-right : goal.times-requires-clause-right
times-requires-clause-right c = turns-in _ _ _ _ _ (c.in_ok-under.ensures.turns _ _ _ c.requires.right.turns (head-inverse _ _ c.requires.home))

pub returns-clause-turns : goal.returns-clause-turns
returns-clause-turns c = λ t u v w h k. c.in_ok-r.ensures.turns _ _ _ _ (grows-turns _ _ c.under_one.ensures.grows _ _ _ _ h) (c.in_ok-under.ensures.turns _ _ _ k (head-inverse _ _ c.requires.home))
