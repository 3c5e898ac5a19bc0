use Rattle.std.specs.Prelude.{◌≡◌, ◌≢◌, ◌*◌, pos, ◌*ℤ◌}
use Rattle.alg_num.specs.Fraction.{Fraction}
use Rattle.alg_num.specs.LowestTerms.{IsInLowestTerms}

-- q is one over p in lowest terms, and zero where p is zero
pub record IsInverse (p q : Fraction) : Type 0 where
  pub lowest : IsInLowestTerms q
  pub at_zero : p.numerator ≡ pos 0 → q.numerator ≡ pos 0
  pub elsewhere : p.numerator ≢ pos 0 → p.numerator *ℤ q.numerator ≡ pos (p.denominator * q.denominator)
