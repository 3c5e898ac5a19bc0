use Rattle.std.specs.Prelude.{ℕ, ◌^◌}
use Rattle.std.specs.Int.{int_pow}
use Rattle.alg_num.specs.Fraction.{Fraction}

-- the power of the numerator over the power of the denominator
abbrev pub power_of : Fraction → ℕ → Fraction
power_of p n = record { numerator = int_pow p.numerator n; denominator = p.denominator ^ n }
