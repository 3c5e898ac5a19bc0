-- Which numbers an operation or a comparison of fractions computes, and that they are at most 2^127 - 1 in absolute
-- value.
use Rattle.std.specs.Prelude.{◌^◌, ℤ, pos, ◌*ℤ◌, ◌-ℤ◌, unsigned_abs, Bool, ◌&&◌, nat_lt}
use Rattle.alg_num.specs.Fraction.{Fraction}
use Rattle.alg_num.specs.Sum.{sum_of}

abbrev pub in_range : ℤ → Bool
in_range z = nat_lt (unsigned_abs z) (2 ^ 127)

-- the numerator and the denominator
abbrev pub numbers_in_range : Fraction → Bool
numbers_in_range p = in_range p.numerator && nat_lt p.denominator (2 ^ 127)

-- both cross products
abbrev pub cross_products_in_range : Fraction → Fraction → Bool
cross_products_in_range p q = in_range (p.numerator *ℤ pos q.denominator) && in_range (q.numerator *ℤ pos p.denominator)

-- both cross products, their sum and the product of the denominators
abbrev pub sum_in_range : Fraction → Fraction → Bool
sum_in_range p q = cross_products_in_range p q && numbers_in_range (sum_of p q)

-- both cross products and their difference
abbrev pub difference_in_range : Fraction → Fraction → Bool
difference_in_range p q = cross_products_in_range p q && in_range (p.numerator *ℤ pos q.denominator -ℤ q.numerator *ℤ pos p.denominator)
