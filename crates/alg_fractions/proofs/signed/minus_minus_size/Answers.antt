use Rattle.alg_fractions.proofs.signed.minus_minus_size.Goals as goal

pub returns-clause-turns : goal.returns-clause-turns
returns-clause-turns c = rw (← c.in_ok-e.ensures.stands.tree) c.neg_neg.ensures.turns
