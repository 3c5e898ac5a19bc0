use Rattle.std.specs.Prelude.{ℕ, ◌<◌, ◌^◌, ◌≡◌, ℤ, pos, ◌*ℤ◌}
use Rattle.alg_num.specs.Range.{InRange}

-- a whole number over a whole number
pub record Fraction : Type 0 where
  pub numerator : ℤ
  pub denominator : ℕ

-- the cross products of two fractions agree
abbrev pub IsSameValue : Fraction → Fraction → Type 0
IsSameValue p q = p.numerator *ℤ pos q.denominator ≡ q.numerator *ℤ pos p.denominator

-- both numbers are at most 2^127 - 1 in absolute value
pub record NumbersInRange (p : Fraction) : Type 0 where
  pub top : InRange p.numerator
  pub bottom : p.denominator < 2 ^ 127
