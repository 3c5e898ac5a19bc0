use Rattle.alg_fraction_sums.proofs.scaling.scaled_product.Goals as goal

pub returns-clause-stands : goal.returns-clause-stands
returns-clause-stands c = rw (← c.in_ok-e.ensures.stands.tree) c.times_literal.ensures.stands
