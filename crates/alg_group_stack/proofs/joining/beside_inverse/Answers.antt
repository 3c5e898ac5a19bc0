use Rattle.alg_build.proofs.Rewritings.{grows-turns, stands-over_one, turns-in}
use Rattle.alg_group_stack.proofs.Homes.{head-inverse}
use Rattle.alg_group_stack.proofs.joining.beside_inverse.Goals as goal

pub under_one-requires : goal.under_one-requires
under_one-requires c = stands-over_one _ _ _ _ _ _ _ (c.keep-kept.ensures _ _ c.requires.before) (head-inverse _ _ c.requires.home)

pub times-requires-clause-left : goal.times-requires-clause-left
times-requires-clause-left c = turns-in _ _ _ _ _ (grows-turns _ _ c.under_one.ensures.grows _ _ _ _ c.requires.turns.turns)

pub times-requires-clause-right : goal.times-requires-clause-right
times-requires-clause-right c = turns-in _ _ _ _ _ (c.in_ok-inverse.ensures.turns _ _ _ (c.keep-kept.ensures _ _ c.requires.before) (head-inverse _ _ c.requires.home))

pub returns-clause-turns : goal.returns-clause-turns
returns-clause-turns c = λ t u k. c.in_ok-r.ensures.turns _ _ _ _ (grows-turns _ _ c.under_one.ensures.grows _ _ _ _ k) (c.in_ok-inverse.ensures.turns _ _ _ (c.keep-kept.ensures _ _ c.requires.before) (head-inverse _ _ c.requires.home))
