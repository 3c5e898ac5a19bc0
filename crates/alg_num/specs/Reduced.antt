use Rattle.std.specs.Prelude.{ℕ, zero, suc, ◌/◌, ◌%◌, ℤ, pos, negsuc, neg_ℤ, unsigned_abs}
use Rattle.alg_num.specs.Fraction.{Fraction}

-- the greatest common divisor of a and b, where b is at most n: Euclid's algorithm in n steps
unfoldable pub divisor_by_steps : ℕ → ℕ → ℕ → ℕ
divisor_by_steps n a zero = a
divisor_by_steps zero a (suc b) = a
divisor_by_steps (suc n) a (suc b) = divisor_by_steps n (suc b) (a % suc b)

-- the greatest common divisor, as a function
unfoldable pub greatest_divisor : ℕ → ℕ → ℕ
greatest_divisor a b = divisor_by_steps b a b

-- a number over a divisor of it
abbrev pub quotient : ℤ → ℕ → ℤ
quotient (pos a) g = pos (a / g)
quotient (negsuc a) g = neg_ℤ (pos (suc a / g))

-- the form in lowest terms of a fraction whose denominator is at least 1, as a function
unfoldable pub reduced : Fraction → Fraction
reduced p = let g = greatest_divisor (unsigned_abs p.numerator) p.denominator in record { numerator = quotient p.numerator g; denominator = p.denominator / g }
