use Rattle.alg_numerals.proofs.negatives.minus_times_zero.Goals as goal

pub returns-clause-turns : goal.returns-clause-turns
returns-clause-turns c = rw (← c.in_ok-e.ensures.stands.tree) c.mul_zero.ensures.turns
