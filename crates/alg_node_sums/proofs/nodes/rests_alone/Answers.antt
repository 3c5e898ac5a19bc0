use Rattle.alg_node_sums.proofs.Deriving.{grows-derives, moved, moved-line, stays}
use Rattle.alg_sorted_sums.proofs.Growing.{holds}
use Rattle.alg_node_sums.proofs.nodes.rests_alone.Goals as goal

pub dropped-requires-clause-none : goal.dropped-requires-clause-none
dropped-requires-clause-none c = let g = c.no_products.ensures.grows in
    moved-line _ _ _ g _ _ _ _ _ _ (holds _ _ _ _ c.requires.p_in.left) (holds _ _ _ _ c.requires.p_in.right) c.in_ok-above.ensures.derives.line

pub dropped-requires-clause-later : goal.dropped-requires-clause-later
dropped-requires-clause-later c = let g = c.no_products.ensures.grows in
    moved _ _ _ g _ _ _ _ _ _ c.requires.q_in c.requires.s_in (grows-derives _ _ _ g _ _ _ c.requires.later)

pub returns-clause-derives : goal.returns-clause-derives
returns-clause-derives c = let g = c.no_products.ensures.grows in
    rw (stays _ _ _ _ _ g c.requires.p_in.left, stays _ _ _ _ _ g c.requires.q_in, stays _ _ _ _ _ g c.requires.p_in.right, stays _ _ _ _ _ g c.requires.s_in, stays _ _ _ _ _ g c.requires.later.stands) at c.in_ok-r.ensures.derives
