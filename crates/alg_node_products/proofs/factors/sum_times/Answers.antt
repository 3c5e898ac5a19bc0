use Rattle.alg_node_sums.proofs.Deriving.{stays, derives-own, grows-derives, leads-to_sum}
use Rattle.alg_node_products.proofs.factors.sum_times.Goals as goal

pub summed-requires-clause-leads : goal.summed-requires-clause-leads
summed-requires-clause-leads c = let g = c.right_distrib.ensures.grows in
    leads-to_sum _ _ _ _ _ _ _ _ c.in_ok-across.ensures.turns (derives-own _ _ _ _ _ (grows-derives _ _ _ g _ _ _ c.requires.first)) (derives-own _ _ _ _ _ (grows-derives _ _ _ g _ _ _ c.requires.second))

pub returns-clause-derives : goal.returns-clause-derives
returns-clause-derives c = let g = c.right_distrib.ensures.grows in
    rw (stays _ _ _ _ _ g c.requires.first.stands, stays _ _ _ _ _ g c.requires.second.stands) at (c.in_ok-r.ensures.derives _ _ _ c.in_ok-across.ensures.turns (derives-own _ _ _ _ _ (grows-derives _ _ _ g _ _ _ c.requires.first)) (derives-own _ _ _ _ _ (grows-derives _ _ _ g _ _ _ c.requires.second)))
