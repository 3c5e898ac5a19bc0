use Rattle.std.specs.Int.{w128}
use Rattle.std.proofs.lemmas.Int.{to_z-of_z, fits_signed_from_abs}
use Rattle.alg_ring_range.proofs.RowLemmas.{by_fraction, inverse_found}
use Rattle.alg_ring_range.proofs.rows.inverse.Goals as goal

pub returns-in-Some : goal.returns-in-Some
returns-in-Some c = λ x h.
    by_fraction c.args.b.now x h _ c.if-not-b.false
    (λ p e.
    let inverse = c.in-Some.ensures x p h e in
    rw (to_z-of_z w128 c.in-Some.top (fits_signed_from_abs w128 c.in-Some.top inverse.3))
    (inverse_found c.args.b.now x h p c.in-Some.z c.in-Some.top c.kept.result inverse c.kept.ensures))
