use Rattle.std.proofs.Common.{◌∙◌, sym}
use Rattle.std.specs.Int.{w128}
use Rattle.std.proofs.lemmas.Int.{to_z-of_z}
use Rattle.alg_ring_range.proofs.RowLemmas.{added_found, added_lost}
use Rattle.alg_ring_range.proofs.rows.added.Goals as goal

pub returns-in-Some : goal.returns-in-Some
returns-in-Some c =
    rw (to_z-of_z w128 c.scaled_sum.result (record { sfits = c.scaled_sum.type_inv }))
    (λ x y n v h i number covered closed top.
    added_found c.args.a.now c.args.b.now x y h i c.in-Some.p c.in-Some.q c.scales-s.result.0 c.scales-s.result.1 c.scaled_sizes.result c.args.numeral n c.and-closed.result v c.args.top _ c.scaled_sum.result
    (sym c.both.ensures ∙ c.in-Some.is) c.scales-s.ensures.left c.scales-s.ensures.right c.scaled_sizes.ensures number covered c.and-closed.ensures closed top (to_z-of_z w128 c.args.top c.ranges.top) c.scaled_sum.ensures)

pub returns-in-None : goal.returns-in-None
returns-in-None c =
    rw c.lost.ensures
    (λ x y n v h i number covered closed top. added_lost c.args.a.now c.args.b.now x y h i c.args.numeral n c.and-closed.result v (sym c.both.ensures ∙ c.in-None.is) number covered c.and-closed.ensures closed)
