-- Fractions over a common denominator.
use Rattle.std.specs.Prelude.{◌≡◌, ◌*◌, ◌<◌, ◌^◌, pos, ◌*ℤ◌, ◌+ℤ◌}
use Rattle.alg_num.specs.Fraction.{Fraction}
use Rattle.alg_num.specs.Range.{InRange}
use Rattle.alg_fraction_numbers.specs.declared.common.Common.{Common}

-- a multiple of the three denominators, with the factors that lead to it, and the numerators over it: those of the
-- first two add up to that of the third
pub record IsCommon (x y z : Fraction) (c : Common) : Type 0 where
  pub first : x.denominator * c.first ≡ c.multiple
  pub second : y.denominator * c.second ≡ c.multiple
  pub third : z.denominator * c.third ≡ c.multiple
  pub above : 0 < c.multiple
  pub small : c.multiple < 2 ^ 127
  pub left : x.numerator *ℤ pos c.first ≡ c.left
  pub right : y.numerator *ℤ pos c.second ≡ c.right
  pub total : z.numerator *ℤ pos c.third ≡ c.total
  pub adds : c.left +ℤ c.right ≡ c.total
  pub left_small : InRange c.left
  pub right_small : InRange c.right
  pub total_small : InRange c.total
