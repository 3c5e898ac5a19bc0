-- Denominator, weight and degree.
use Rattle.std.specs.Prelude.{ℕ, ◌+◌, ◌*◌, ◌/◌, ◌^◌, max, unsigned_abs, Bool}
use Rattle.alg_num.specs.Fraction.{Fraction}
use Rattle.alg_law.specs.Computing.{least_multiple}
use Rattle.alg_expansions.specs.Range as range
use Rattle.alg_sums.specs.Inverse.{inverse_of}
use Rattle.alg_ring_range.specs.declared.sizes.Sizes.{Sizes}

-- past a limit
abbrev pub is_past : Sizes → Bool
is_past z = range.is_past z.denominator z.weight z.degree

abbrev pub literal_sizes : ℕ → Sizes
literal_sizes n = record { denominator = 1; weight = n; degree = 0 }

abbrev pub atom_sizes : Sizes
atom_sizes = record { denominator = 1; weight = 1; degree = 1 }

-- over the least common multiple of both denominators
abbrev pub sum_sizes : Sizes → Sizes → Sizes
sum_sizes x y =
    let l = least_multiple x.denominator y.denominator in
    record { denominator = l; weight = x.weight * (l / x.denominator) + y.weight * (l / y.denominator); degree = max x.degree y.degree }

abbrev pub product_sizes : Sizes → Sizes → Sizes
product_sizes x y = record { denominator = x.denominator * y.denominator; weight = x.weight * y.weight; degree = x.degree + y.degree }

abbrev pub power_sizes : Sizes → ℕ → Sizes
power_sizes x c = record { denominator = x.denominator ^ c; weight = x.weight ^ c; degree = c * x.degree }

-- an atom more
abbrev pub quotient_sizes : Sizes → Sizes
quotient_sizes x = record { denominator = x.denominator; weight = x.weight; degree = x.degree + 1 }

abbrev pub fraction_sizes : Fraction → Sizes
fraction_sizes p = record { denominator = p.denominator; weight = unsigned_abs p.numerator; degree = 0 }

-- those of the inverse of a closed tree, by its fraction in lowest terms
abbrev pub inverse_sizes : Fraction → Sizes
inverse_sizes p = fraction_sizes (inverse_of p)
