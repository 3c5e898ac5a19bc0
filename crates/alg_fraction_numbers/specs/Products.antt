-- Products of fractions that aren't below 0.
use Rattle.std.specs.Prelude.{ℕ, pos}
use Rattle.alg_num.specs.Fraction.{Fraction}
use Rattle.alg_num.specs.LowestTerms.{IsInLowestTerms, Reduces}
use Rattle.alg_num.specs.Product.{product_of}

-- n / d
abbrev pub size_of : ℕ → ℕ → Fraction
size_of n d = record { numerator = pos n; denominator = d }

-- n / d and m / e are in lowest terms, and p / q is their product in lowest terms
pub record SizesMultiply (n d m e p q : ℕ) : Type 0 where
  pub first : IsInLowestTerms (size_of n d)
  pub second : IsInLowestTerms (size_of m e)
  pub product : Reduces (product_of (size_of n d) (size_of m e)) (size_of p q)
