use Rattle.alg_node_sums.proofs.Deriving.{grows-derives, moved, stays}
use Rattle.alg_sorted_sums.proofs.Growing.{holds}
use Rattle.alg_node_sums.proofs.nodes.both.Goals as goal

pub gathered-requires-clause-above : goal.gathered-requires-clause-above
gathered-requires-clause-above c = let g = c.products.ensures.grows in
    moved _ _ _ g _ _ _ _ _ _ (holds _ _ _ _ c.requires.p_in.left) (holds _ _ _ _ c.requires.p_in.right) c.in_ok-above.ensures.derives

pub gathered-requires-clause-later : goal.gathered-requires-clause-later
gathered-requires-clause-later c = let g = c.products.ensures.grows in
    moved _ _ _ g _ _ _ _ _ _ c.requires.q_in c.requires.s_in (grows-derives _ _ _ g _ _ _ c.requires.later)

pub returns-clause-derives : goal.returns-clause-derives
returns-clause-derives c = let g = c.products.ensures.grows in
    rw (stays _ _ _ _ _ g c.requires.p_in.left, stays _ _ _ _ _ g c.requires.q_in, stays _ _ _ _ _ g c.requires.p_in.right, stays _ _ _ _ _ g c.requires.s_in, c.in_ok-above.ensures.derives.stands.tree, stays _ _ _ _ _ g c.requires.later.stands) at c.in_ok-r.ensures.derives
