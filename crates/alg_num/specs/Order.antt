use Rattle.std.specs.Prelude.{Bool, pos, ◌*ℤ◌, ◌-ℤ◌}
use Rattle.std.specs.declared.cmp.Ordering.{Ordering}
use Rattle.std.specs.Ordering.{int_cmp, is_ne}
use Rattle.alg_num.specs.Range.{InRange}
use Rattle.alg_num.specs.Fraction.{Fraction}

-- two fractions stand to each other as their cross products do
abbrev pub order_of : Fraction → Fraction → Ordering
order_of p q = int_cmp (p.numerator *ℤ pos q.denominator) (q.numerator *ℤ pos p.denominator)

-- both cross products are in range
pub record CrossProductsInRange (p q : Fraction) : Type 0 where
  pub left : InRange (p.numerator *ℤ pos q.denominator)
  pub right : InRange (q.numerator *ℤ pos p.denominator)

-- the cross products are not the same number
abbrev pub is_different : Fraction → Fraction → Bool
is_different p q = is_ne (order_of p q)

-- both cross products and their difference are in range
pub record CrossDifferenceInRange (p q : Fraction) : Type 0 where
  pub left : InRange (p.numerator *ℤ pos q.denominator)
  pub right : InRange (q.numerator *ℤ pos p.denominator)
  pub difference : InRange (p.numerator *ℤ pos q.denominator -ℤ q.numerator *ℤ pos p.denominator)
