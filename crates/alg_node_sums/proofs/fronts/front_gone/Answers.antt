use Rattle.alg_node_sums.proofs.Deriving.{moved-line, stays}
use Rattle.alg_sorted_sums.proofs.Growing.{holds}
use Rattle.alg_node_sums.proofs.fronts.front_gone.Goals as goal

pub before_nothing-requires-clause-none : goal.before_nothing-requires-clause-none
before_nothing-requires-clause-none c = let g = c.no_products.ensures.grows in
    moved-line _ _ _ g _ _ _ _ _ _ (holds _ _ _ _ c.requires.p_in.left) (holds _ _ _ _ c.requires.p_in.right) c.in_ok-above.ensures.derives.line

pub returns-clause-derives : goal.returns-clause-derives
returns-clause-derives c = let g = c.no_products.ensures.grows in
    rw (stays _ _ _ _ _ g c.requires.p_in.left, stays _ _ _ _ _ g c.requires.p_in.right, stays _ _ _ _ _ g c.requires.s_in) at c.in_ok-r.ensures.derives
