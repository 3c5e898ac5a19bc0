-- A fraction as an element of the ring.
use Rattle.std.specs.Prelude.{ℕ, zero, suc, ◌<◌, ℤ}
use Rattle.std.proofs.Common.{arith}
use Rattle.alg_num.specs.Fraction.{Fraction}
use Rattle.alg_sums.specs.Ratio.{Ratio, ratio_of}
use Rattle.alg_sums.specs.RatioRing.{nil}

pub above_zero : (n : ℕ) → 0 < suc n
above_zero n = omega arith

-- nil where the denominator is 0, which no `Frac` has
abbrev pub ratio_over : ℤ → ℕ → Ratio
ratio_over n zero = nil
ratio_over n (suc d) = ratio_of (record { numerator = n; denominator = suc d }) (above_zero d)

abbrev pub ratio_at : Fraction → Ratio
ratio_at p = ratio_over p.numerator p.denominator
