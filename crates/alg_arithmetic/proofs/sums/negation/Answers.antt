use Rattle.alg_arithmetic.proofs.Evaluations.{negation_signs, negation_first, negation_is}
use Rattle.alg_arithmetic.proofs.sums.negation.Goals as goal

pub negation_of_fraction-requires : goal.negation_of_fraction-requires
negation_of_fraction-requires c = record { signs = negation_signs _ _ _ _ c.requires; first = negation_first _ _ _ _ c.requires }

pub returns-clause-turns : goal.returns-clause-turns
returns-clause-turns c = rw (← negation_is _ _ _ _ c.requires) c.negation_of_fraction.ensures.turns
