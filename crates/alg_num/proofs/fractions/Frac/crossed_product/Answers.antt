use Rattle.std.proofs.Common.{ℤ, subst}
use Rattle.alg_num.specs.Fraction.{Fraction}
use Rattle.alg_num.specs.LowestTerms.{Reduces}
use Rattle.alg_num.proofs.Reductions.{cast_back, crossed, crossed_answer}
use Rattle.alg_num.proofs.fractions.Frac.crossed_product.Goals as goal

pub returns : goal.returns
returns c =
    let p : Fraction = record { numerator = c.self.inside.num; denominator = c.self.inside.den } in
    let q : Fraction = record { numerator = c.other.inside.num; denominator = c.other.inside.den } in
    let P : ℤ → Type 0 = λ z. Reduces (record { numerator = z; denominator = c.other.inside.den }) c.reduced-left.result in
    let Q : ℤ → Type 0 = λ z. Reduces (record { numerator = z; denominator = c.self.inside.den }) c.reduced-right.result in
    let left : Reduces (crossed p q) c.reduced-left.result = subst P (cast_back c.self.inside.num c.self.invariant.small.top) c.reduced-left.ensures in
    let right : Reduces (crossed q p) c.reduced-right.result = subst Q (cast_back c.other.inside.num c.other.invariant.small.top) c.reduced-right.ensures in
    rw (← c.self.view_is, ← c.other.view_is)
    (crossed_answer c.mul.result p q c.reduced-left.result c.reduced-right.result c.self.invariant.lowest c.other.invariant.lowest left right c.mul.ensures)
