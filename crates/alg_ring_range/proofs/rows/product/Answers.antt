use Rattle.std.proofs.Common.{◌∙◌, sym}
use Rattle.std.specs.Int.{w128}
use Rattle.std.proofs.lemmas.Int.{to_z-of_z}
use Rattle.alg_ring_range.proofs.RowLemmas.{product_found, product_lost}
use Rattle.alg_ring_range.proofs.rows.product.Goals as goal

pub returns-in-Some : goal.returns-in-Some
returns-in-Some c =
    rw (to_z-of_z w128 c.times.result (record { sfits = c.times.type_inv }))
    (λ x y h i. product_found c.args.a.now c.args.b.now x y h i c.in-Some.p c.in-Some.q c.product_sizes.result c.product_numeral-numeral.result c.and-closed.result c.times.result (sym c.both.ensures ∙ c.in-Some.is) c.product_sizes.ensures c.product_numeral-numeral.ensures c.and-closed.ensures c.times.ensures)

pub returns-in-None : goal.returns-in-None
returns-in-None c =
    rw c.lost.ensures
    (λ x y h i. product_lost c.args.a.now c.args.b.now x y h i c.product_numeral-numeral.result c.and-closed.result (sym c.both.ensures ∙ c.in-None.is) c.product_numeral-numeral.ensures c.and-closed.ensures)
