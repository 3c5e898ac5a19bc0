use Rattle.std.proofs.Common.{refl}
use Rattle.alg_expansions.specs.Numerals.{sum_numeral}
use Rattle.alg_ring_range.proofs.RowLemmas.{sum_number, sum_covered, small, cast_top}
use Rattle.alg_ring_range.proofs.rows.sum.Goals as goal

pub returns : goal.returns
returns c = λ x y h i.
    c.added.ensures x y (sum_numeral x.numeral y.numeral) y.fraction h i (sum_number c.args.a.now c.args.b.now x y h i c.sum_numeral.result c.sum_numeral.ensures) (sum_covered c.args.a.now c.args.b.now x y h i) refl
    (λ o. cast_top y.fraction c.args.b.now.top y.sizes (small c.args.b.now y i o) (i.top o))
