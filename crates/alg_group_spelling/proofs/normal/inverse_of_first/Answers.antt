use Rattle.alg_build.proofs.Rewritings.{stands-over_one}
use Rattle.alg_group_stack.proofs.Homes.{grows-home, head-inverse}
use Rattle.alg_group_spelling.proofs.normal.inverse_of_first.Goals as goal

pub under_one-requires : goal.under_one-requires
under_one-requires c = stands-over_one _ _ _ _ _ _ _ c.in_ok-r.ensures.turns (head-inverse _ _ (grows-home _ _ _ c.first_power.ensures.grows c.requires.home))

pub returns-clause-turns : goal.returns-clause-turns
returns-clause-turns c = c.in_ok-q.ensures.turns _ _ _ c.in_ok-r.ensures.turns (head-inverse _ _ (grows-home _ _ _ c.first_power.ensures.grows c.requires.home))
