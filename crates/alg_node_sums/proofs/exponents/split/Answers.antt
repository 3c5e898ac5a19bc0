use Rattle.alg_node_sums.proofs.Deriving.{stays}
use Rattle.alg_node_sums.proofs.exponents.split.Goals as goal

pub returns-clause-derives : goal.returns-clause-derives
returns-clause-derives c = rw (stays _ _ _ _ _ c.node_split.ensures.grows c.requires.b_in) at (c.in_ok-q.ensures.derives _ _ c.in_ok-r.ensures.turns)
