use Rattle.std.specs.Prelude.{ℕ, ◌<◌, ◌/◌, ◌^◌, pos, ℤ, ◌*ℤ◌, ◌+ℤ◌}
use Rattle.std.specs.Int.{◌∣◌}
use Rattle.alg_num.specs.Range.{InRange}
use Rattle.alg_num.specs.Fraction.{Fraction}

-- m is the least common multiple of a and b: both divide it, and it divides each number that both divide
pub record IsLeastCommonMultiple (a b m : ℕ) : Type 0 where
  pub first : a ∣ m
  pub second : b ∣ m
  pub least : (n : ℕ) → a ∣ n → b ∣ n → m ∣ n

-- the numerator of the fraction over the denominator m, a multiple of its own
abbrev pub numerator_over : ℕ → Fraction → ℤ
numerator_over m p = p.numerator *ℤ pos (m / p.denominator)

-- the least common multiple of the denominators, both numerators over it and their sum are in range
pub record LeastSumInRange (p q : Fraction) : Type 0 where
  pub multiple : ℕ
  pub least : IsLeastCommonMultiple p.denominator q.denominator multiple
  pub bottom : multiple < 2 ^ 127
  pub left : InRange (numerator_over multiple p)
  pub right : InRange (numerator_over multiple q)
  pub total : InRange (numerator_over multiple p +ℤ numerator_over multiple q)
