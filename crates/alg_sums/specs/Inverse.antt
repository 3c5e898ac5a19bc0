-- One over a fraction in lowest terms, as a function: the two numbers change places, and the sign stays above.
use Rattle.std.specs.Prelude.{ℕ, zero, suc, ℤ, pos, negsuc, neg_ℤ}
use Rattle.alg_num.specs.Fraction.{Fraction}

-- the fraction d / n
abbrev pub over_numerator : ℤ → ℕ → Fraction
over_numerator (pos zero) d = record { numerator = pos 0; denominator = 1 }
over_numerator (pos (suc n)) d = record { numerator = pos d; denominator = suc n }
over_numerator (negsuc n) d = record { numerator = neg_ℤ (pos d); denominator = suc n }

-- 0 over 0
abbrev pub inverse_of : Fraction → Fraction
inverse_of p = over_numerator p.numerator p.denominator
