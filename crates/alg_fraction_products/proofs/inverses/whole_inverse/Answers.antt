use Rattle.alg_fraction_products.proofs.inverses.whole_inverse.Goals as goal

pub returns-clause-turns : goal.returns-clause-turns
returns-clause-turns c = rw (← c.in_ok-a.ensures.stands.tree) c.inv_eq_one_div.ensures.turns
