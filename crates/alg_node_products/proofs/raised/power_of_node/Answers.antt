use Rattle.alg_node_products.proofs.raised.power_of_node.Goals as goal

pub returns-clause-derives : goal.returns-clause-derives
returns-clause-derives c = c.in_ok-made.ensures.derives _ _ _ c.in_ok-r.ensures.turns
