use Rattle.alg_node_products.proofs.factors.times_unit_joined.Goals as goal

pub returns-clause-derives : goal.returns-clause-derives
returns-clause-derives c = c.in_ok-made.ensures.derives _ _ _ c.in_ok-r.ensures.turns
