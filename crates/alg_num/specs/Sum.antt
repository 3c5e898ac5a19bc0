use Rattle.std.specs.Prelude.{ℕ, ◌*◌, ◌<◌, ◌^◌, pos, ℤ, ◌*ℤ◌, ◌+ℤ◌}
use Rattle.alg_num.specs.Range.{InRange}
use Rattle.alg_num.specs.Fraction.{Fraction}

-- the sum over the product of the denominators
abbrev pub sum_of : Fraction → Fraction → Fraction
sum_of p q = record { numerator = p.numerator *ℤ pos q.denominator +ℤ q.numerator *ℤ pos p.denominator; denominator = p.denominator * q.denominator }

-- the products a * m and b * n and their sum are in range
pub record ScaledSumInRange (a : ℤ) (m : ℕ) (b : ℤ) (n : ℕ) : Type 0 where
  pub left : InRange (a *ℤ pos m)
  pub right : InRange (b *ℤ pos n)
  pub total : InRange (a *ℤ pos m +ℤ b *ℤ pos n)

-- both cross products, their sum and the product of the denominators are in range
pub record SumInRange (p q : Fraction) : Type 0 where
  pub crossed : ScaledSumInRange p.numerator q.denominator q.numerator p.denominator
  pub bottom : p.denominator * q.denominator < 2 ^ 127
