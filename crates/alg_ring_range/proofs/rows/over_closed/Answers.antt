use Rattle.std.specs.Int.{w128}
use Rattle.std.proofs.lemmas.Int.{to_z-of_z, fits_signed_from_abs}
use Rattle.alg_ring_range.proofs.RowLemmas.{over_closed_found, over_closed_lost, or_right}
use Rattle.alg_ring_range.proofs.rows.over_closed.Goals as goal

pub returns-in-Some-inverted : goal.returns-in-Some-inverted
returns-in-Some-inverted c =
    rw (to_z-of_z w128 c.times.result (record { sfits = c.times.type_inv }))
    (λ x y q h i e.
    let inverse = c.in-Some-inverted.ensures y q i e in
    over_closed_found c.args.a.now c.args.b.now x y h i c.in-Some.p c.in-Some-inverted.z c.product_sizes.result q c.in-Some-inverted.top _ c.times.result c.in-Some.is e inverse (to_z-of_z w128 c.in-Some-inverted.top (fits_signed_from_abs w128 c.in-Some-inverted.top inverse.3)) c.product_sizes.ensures c.times.ensures)

pub returns-in-None-inverted : goal.returns-in-None-inverted
returns-in-None-inverted c =
    rw c.lost.ensures
    (λ x y q h i e. over_closed_lost c.args.a.now c.args.b.now x y h i q (or_right x.is_out y.is_out (c.in-None-inverted.ensures y q i e)))
