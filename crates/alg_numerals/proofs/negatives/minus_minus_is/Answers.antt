use Rattle.alg_numerals.proofs.negatives.minus_minus_is.Goals as goal

pub returns-clause-turns : goal.returns-clause-turns
returns-clause-turns c = rw (← c.in_ok-e.ensures.stands.tree) c.neg_neg.ensures.turns
