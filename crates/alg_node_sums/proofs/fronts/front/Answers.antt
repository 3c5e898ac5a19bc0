use Rattle.alg_node_sums.proofs.Deriving.{moved, stays}
use Rattle.alg_sorted_sums.proofs.Growing.{holds}
use Rattle.alg_node_sums.proofs.fronts.front.Goals as goal

pub before-requires-clause-above : goal.before-requires-clause-above
before-requires-clause-above c = let g = c.products.ensures.grows in
    moved _ _ _ g _ _ _ _ _ _ (holds _ _ _ _ c.requires.p_in.left) (holds _ _ _ _ c.requires.p_in.right) c.in_ok-above.ensures.derives

pub returns-clause-derives : goal.returns-clause-derives
returns-clause-derives c = let g = c.products.ensures.grows in
    rw (stays _ _ _ _ _ g c.requires.p_in.left, stays _ _ _ _ _ g c.requires.p_in.right, stays _ _ _ _ _ g c.requires.s_in, c.in_ok-above.ensures.derives.stands.tree) at c.in_ok-r.ensures.derives
