use Rattle.alg_numerals.proofs.negatives.zero_times_minus.Goals as goal

pub returns-clause-turns : goal.returns-clause-turns
returns-clause-turns c = rw (← c.in_ok-e.ensures.stands.tree) c.zero_mul.ensures.turns
