use Rattle.alg_build.proofs.Rewritings.{stands-over}
use Rattle.alg_group_stack.proofs.Homes.{head-integer_power}
use Rattle.alg_group_stack.proofs.powers.raised.Goals as goal

pub under_two-requires : goal.under_two-requires
under_two-requires c = stands-over _ _ _ _ _ _ _ _ _ _ _ (c.keep-base.ensures _ _ c.requires.base) c.requires.exponent.turns (head-integer_power _ _ c.requires.home)

pub returns-clause-turns : goal.returns-clause-turns
returns-clause-turns c = λ x y k. c.in_ok-q.ensures.turns _ _ _ _ _ _ (c.keep-base.ensures _ _ c.requires.base) k (head-integer_power _ _ c.requires.home)
