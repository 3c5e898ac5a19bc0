use Rattle.std.proofs.Common.{◌∙◌}
use Rattle.alg_build.proofs.Lines.{grows-then}
use Rattle.alg_node_sums.proofs.Deriving.{stays, grows-derives}
use Rattle.alg_node_products.proofs.negatives.negated.Goals as goal

pub neg_sum-requires-clause-first_line : goal.neg_sum-requires-clause-first_line
neg_sum-requires-clause-first_line c = let g = c.negated_product.ensures.grows in
    rw ((stays _ _ _ _ _ g c.requires.e_in ∙ c.requires.product), c.in_ok-above.ensures.derives.stands.tree) c.in_ok-above.ensures.derives.line

pub neg_sum-requires-clause-second_line : goal.neg_sum-requires-clause-second_line
neg_sum-requires-clause-second_line c = let g = c.negated_product.ensures.grows in
    rw (stays _ _ _ _ _ g c.requires.d_in, stays _ _ _ _ _ g c.requires.later.stands) (grows-derives _ _ _ g _ _ _ c.requires.later).line

pub returns-clause-derives : goal.returns-clause-derives
returns-clause-derives c = let g = c.negated_product.ensures.grows in
    rw (stays _ _ _ _ _ g c.requires.e_in, stays _ _ _ _ _ g c.requires.d_in, c.in_ok-above.ensures.derives.stands.tree, stays _ _ _ _ _ g c.requires.later.stands) at (c.in_ok-made.ensures.derives _ _ _ c.in_ok-r.ensures.turns)

pub returns-in_err-made-clause-grows : goal.returns-in_err-made-clause-grows
returns-in_err-made-clause-grows c = grows-then _ _ _ c.negated_product.ensures.grows (grows-then _ _ _ c.neg_sum.ensures.grows c.with_line.ensures.grows)

pub returns-clause-grows : goal.returns-clause-grows
returns-clause-grows c = grows-then _ _ _ c.negated_product.ensures.grows (grows-then _ _ _ c.neg_sum.ensures.grows c.with_line.ensures.grows)
