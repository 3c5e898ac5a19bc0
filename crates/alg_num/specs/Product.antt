use Rattle.std.specs.Prelude.{◌*◌, ◌*ℤ◌}
use Rattle.alg_num.specs.Fraction.{Fraction}

-- the product of the numerators over the product of the denominators
abbrev pub product_of : Fraction → Fraction → Fraction
product_of p q = record { numerator = p.numerator *ℤ q.numerator; denominator = p.denominator * q.denominator }
