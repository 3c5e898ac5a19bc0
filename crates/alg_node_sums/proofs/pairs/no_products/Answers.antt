use Rattle.alg_node_sums.proofs.pairs.no_products.Goals as goal

pub returns-clause-derives : goal.returns-clause-derives
returns-clause-derives c = rw (c.requires.p_in.left.tree, c.requires.p_in.right.tree) (c.in_ok-made.ensures.derives _ _ _ c.in_ok-r.ensures.turns)
