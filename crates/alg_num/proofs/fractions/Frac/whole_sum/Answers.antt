use Rattle.std.proofs.Common.{◌≡◌, ◌+ℤ◌, ap, sym, ◌∙◌, subst, to_z, of_z}
use Rattle.std.specs.Int.{w128}
use Rattle.alg_num.specs.Range.{InRange}
use Rattle.alg_num.specs.Fraction.{Fraction}
use Rattle.alg_num.proofs.Reductions.{cast_back}
use Rattle.alg_num.proofs.WholeNumbers.{sum_past, sum_within}
use Rattle.alg_num.proofs.fractions.Frac.whole_sum.Goals as goal

pub returns-in_err-num : goal.returns-in_err-num
returns-in_err-num c =
    let d : c.self.inside.den ≡ 1 = ap (λ (x : Fraction). x.denominator) c.self.view_is ∙ c.requires.first in
    let e : c.other.inside.den ≡ 1 = ap (λ (x : Fraction). x.denominator) c.other.view_is ∙ c.requires.second in
    let n = rw (cast_back c.self.inside.num c.self.invariant.small.top, cast_back c.other.inside.num c.other.invariant.small.top) at (c.in_err-num.ensures {u = tt}) in
    rw (c.from_residual.ensures, ← c.self.view_is, ← c.other.view_is)
    (sum_past c.self.inside.num c.other.inside.num c.self.inside.den c.other.inside.den d e n)

pub returns : goal.returns
returns c =
    let d : c.self.inside.den ≡ 1 = ap (λ (x : Fraction). x.denominator) c.self.view_is ∙ c.requires.first in
    let e : c.other.inside.den ≡ 1 = ap (λ (x : Fraction). x.denominator) c.other.view_is ∙ c.requires.second in
    let s = rw (cast_back c.self.inside.num c.self.invariant.small.top, cast_back c.other.inside.num c.other.invariant.small.top) at (c.in_ok-num.ensures {u = tt}) in
    let back : to_z w128 (of_z w128 c.in_ok-num.num) ≡ c.self.inside.num +ℤ c.other.inside.num = cast_back c.in_ok-num.num (subst InRange (sym s.1) s.0) ∙ s.1 in
    rw (c.whole.ensures, back, ← c.self.view_is, ← c.other.view_is)
    (sum_within c.self.inside.num c.other.inside.num c.self.inside.den c.other.inside.den d e c.self.invariant.small.top c.other.invariant.small.top s.0)
