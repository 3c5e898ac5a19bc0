use Rattle.std.proofs.Common.{◌∙◌, sym}
use Rattle.std.specs.Int.{w128}
use Rattle.std.proofs.lemmas.Int.{to_z-of_z}
use Rattle.alg_ring_range.proofs.RowLemmas.{power_found, power_lost}
use Rattle.alg_ring_range.proofs.rows.power_by.Goals as goal

pub returns-in-Some : goal.returns-in-Some
returns-in-Some c =
    rw (to_z-of_z w128 c.raised.result (record { sfits = c.raised.type_inv }))
    (λ x y n h i e f. power_found c.args.a.now c.args.b.now x y h i c.in-Some.p c.in-Some.field-0-1 c.power_sizes.result c.power_numeral-numeral.result c.args.n n c.raised.result (sym c.both.ensures ∙ c.in-Some.is) e f c.power_sizes.ensures c.power_numeral-numeral.ensures c.raised.ensures)

pub returns-in-None : goal.returns-in-None
returns-in-None c =
    rw c.lost.ensures
    (λ x y n h i e f. power_lost c.args.a.now c.args.b.now x y h i c.power_numeral-numeral.result c.args.n n (sym c.both.ensures ∙ c.in-None.is) f c.power_numeral-numeral.ensures)
