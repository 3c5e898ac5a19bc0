use Rattle.std.specs.Prelude.{◌<◌, unsigned_abs}
use Rattle.std.specs.Int.{IsGcd}
use Rattle.alg_num.specs.Fraction.{Fraction, IsSameValue, NumbersInRange}

-- the denominator is at least 1, and no number above 1 divides both numbers
pub record IsInLowestTerms (q : Fraction) : Type 0 where
  pub positive : 0 < q.denominator
  pub coprime : IsGcd (unsigned_abs q.numerator) q.denominator 1

-- what a `Frac` holds
pub record IsFracValue (q : Fraction) : Type 0 where
  pub lowest : IsInLowestTerms q
  pub small : NumbersInRange q

-- q is the fraction p in lowest terms
pub record Reduces (p q : Fraction) : Type 0 where
  pub lowest : IsInLowestTerms q
  pub same : IsSameValue p q

-- p in lowest terms has both numbers in range
pub record LowestInRange (p : Fraction) : Type 0 where
  pub lowest : Fraction
  pub reduces : Reduces p lowest
  pub small : NumbersInRange lowest
