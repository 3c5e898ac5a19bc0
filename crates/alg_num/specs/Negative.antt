use Rattle.std.specs.Prelude.{neg_ℤ}
use Rattle.alg_num.specs.Fraction.{Fraction}

-- the same size with the other sign
abbrev pub negative_of : Fraction → Fraction
negative_of p = record { numerator = neg_ℤ p.numerator; denominator = p.denominator }
