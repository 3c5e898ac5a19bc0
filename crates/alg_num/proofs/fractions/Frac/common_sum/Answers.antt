use Rattle.std.proofs.Common.{ℕ, ◌<◌, sym, subst}
use Rattle.alg_num.proofs.CoprimeLaws.{gcd_positive}
use Rattle.alg_num.specs.Fraction.{Fraction}
use Rattle.alg_num.proofs.Reductions.{cast_back}
use Rattle.alg_num.proofs.LeastSums.{parts_of_least, multiple_positive, least_sum}
use Rattle.alg_num.proofs.fractions.Frac.common_sum.Goals as goal

pub nonzero_div-own_part : goal.nonzero_div-own_part
nonzero_div-own_part c = gcd_positive _ c.other.inside.den _ c.other.invariant.lowest.positive c.gcd-common.ensures

pub nonzero_div-other_part : goal.nonzero_div-other_part
nonzero_div-other_part c = gcd_positive _ c.other.inside.den _ c.other.invariant.lowest.positive c.gcd-common.ensures

pub returns-in_err-total : goal.returns-in_err-total
returns-in_err-total c =
    let p : Fraction = record { numerator = c.self.inside.num; denominator = c.self.inside.den } in
    let q : Fraction = record { numerator = c.other.inside.num; denominator = c.other.inside.den } in
    let n = rw (cast_back c.self.inside.num c.self.invariant.small.top, cast_back c.other.inside.num c.other.invariant.small.top) at (c.in_err-total.ensures {u = tt}) in
    rw (c.from_residual.ensures, ← c.self.view_is, ← c.other.view_is)
    (λ w. n (parts_of_least p q c.gcd-common.result c.self.invariant.lowest.positive c.other.invariant.lowest.positive c.gcd-common.ensures w).sum)

pub returns-in_err-den : goal.returns-in_err-den
returns-in_err-den c =
    let p : Fraction = record { numerator = c.self.inside.num; denominator = c.self.inside.den } in
    let q : Fraction = record { numerator = c.other.inside.num; denominator = c.other.inside.den } in
    let n = c.in_err-den.ensures {u = tt} in
    rw (c.from_residual-in_err-den.ensures, ← c.self.view_is, ← c.other.view_is)
    (λ w. n (parts_of_least p q c.gcd-common.result c.self.invariant.lowest.positive c.other.invariant.lowest.positive c.gcd-common.ensures w).bottom)

pub reduced-requires-clause-positive : goal.reduced-requires-clause-positive
reduced-requires-clause-positive c =
    let P : ℕ → Type 0 = λ d. 0 < d in
    subst P (sym (c.in_ok-den.ensures {u = tt}).1)
    (multiple_positive c.self.inside.den c.other.inside.den c.gcd-common.result c.self.invariant.lowest.positive c.other.invariant.lowest.positive c.gcd-common.ensures)

pub returns : goal.returns
returns c =
    let p : Fraction = record { numerator = c.self.inside.num; denominator = c.self.inside.den } in
    let q : Fraction = record { numerator = c.other.inside.num; denominator = c.other.inside.den } in
    let total = rw (cast_back c.self.inside.num c.self.invariant.small.top, cast_back c.other.inside.num c.other.invariant.small.top) at (c.in_ok-total.ensures {u = tt}) in
    let den = c.in_ok-den.ensures {u = tt} in
    rw (← c.self.view_is, ← c.other.view_is)
    (least_sum p q c.reduced.result c.gcd-common.result c.in_ok-total.total c.in_ok-den.den c.self.invariant.lowest c.other.invariant.lowest c.gcd-common.ensures total.0 total.1 den.0 den.1 c.reduced.ensures)
