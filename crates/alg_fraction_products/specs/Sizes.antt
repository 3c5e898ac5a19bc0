-- The sizes of fractions: their numbers without the sign.
use Rattle.std.specs.Prelude.{◌≡◌, ◌<◌, ◌^◌, unsigned_abs}
use Rattle.alg_num.specs.Fraction.{Fraction}
use Rattle.alg_num.specs.LowestTerms.{IsInLowestTerms}
use Rattle.alg_fraction_numbers.specs.Products.{SizesMultiply}
use Rattle.alg_fraction_products.specs.declared.parts.Size.{Size}

-- both numbers are at most 2^127 - 1
pub record IsSmall (a : Size) : Type 0 where
  pub top : a.top < 2 ^ 127
  pub bottom : a.bottom < 2 ^ 127

-- the size of the fraction, which is in lowest terms
pub record IsSizeOf (x : Fraction) (a : Size) : Type 0 where
  pub top : a.top ≡ unsigned_abs x.numerator
  pub bottom : a.bottom ≡ x.denominator
  pub lowest : IsInLowestTerms x
  pub small : IsSmall a

-- the product of the first two is the third, all in lowest terms
pub record Multiply (a b c : Size) : Type 0 where
  pub sizes : SizesMultiply a.top a.bottom b.top b.bottom c.top c.bottom
  pub first : IsSmall a
  pub second : IsSmall b
  pub product : IsSmall c
