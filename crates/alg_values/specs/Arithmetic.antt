-- The value of one operation at fractions in lowest terms.
use Rattle.std.specs.Prelude.{ℕ, zero, suc, ℤ, pos, negsuc, neg_ℤ, unsigned_abs, Bool, true, false, ◌&&◌, List, [], ◌∷◌}
use Rattle.alg_terms.specs.declared.sorts.Sort.{Sort}
use Rattle.alg_terms.specs.declared.symbols.Sym.{Sym}
use Rattle.alg_terms.specs.declared.symbols.Sym.TheVariants.{Add, Mul, Neg, Sub, Inv, Div, Npow, Zpow, Nsmul, Zsmul}
use Rattle.alg_num.specs.Fraction.{Fraction}
use Rattle.alg_num.specs.Negative.{negative_of}
use Rattle.alg_num.specs.Reduced.{reduced}
use Rattle.alg_num.specs.Sum.{sum_of}
use Rattle.alg_num.specs.Product.{product_of}
use Rattle.alg_num.specs.Power.{power_of}
use Rattle.alg_law.specs.declared.classes.Class.TheVariants.{Semiring, Ring, Field, CharZero}
use Rattle.alg_values.specs.Setting.{Classes}
use Rattle.alg_values.specs.Ranges.{sum_in_range, numbers_in_range}
use Rattle.alg_values.specs.declared.value.Value.{Value}
use Rattle.alg_values.specs.declared.value.Value.TheVariants.{Num, Past, Without}

abbrev pub whole_number : ℤ → Fraction
whole_number z = record { numerator = z; denominator = 1 }

-- the size of the numerator: the number itself where it is a natural number
abbrev pub size_of : Fraction → ℕ
size_of p = unsigned_abs p.numerator

-- the fraction in lowest terms where its numbers are in range
abbrev pub ranged : Bool → Fraction → Value
ranged true p = Num (reduced p)
ranged false p = Past

-- no value where a class is missing
abbrev pub where_has : Bool → Value → Value
where_has true v = v
where_has false v = Without

abbrev pub sum_value : Fraction → Fraction → Value
sum_value p q = ranged (sum_in_range p q) (sum_of p q)

abbrev pub product_value : Fraction → Fraction → Value
product_value p q = ranged (numbers_in_range (product_of p q)) (product_of p q)

abbrev pub power_value : Fraction → ℕ → Value
power_value p n = ranged (numbers_in_range (power_of p n)) (power_of p n)

-- d over a number, with the sign of the number; 0 has the inverse 0
abbrev pub inverted : ℤ → ℕ → Fraction
inverted (pos zero) d = whole_number (pos 0)
inverted (pos (suc n)) d = record { numerator = pos d; denominator = suc n }
inverted (negsuc n) d = record { numerator = neg_ℤ (pos d); denominator = suc n }

abbrev pub inverse_of : Fraction → Fraction
inverse_of p = inverted p.numerator p.denominator

-- a power by an integer: below 0 it is one of the inverse
abbrev pub integer_power_value : Fraction → ℤ → Value
integer_power_value p (pos n) = power_value p n
integer_power_value p (negsuc n) = power_value (inverse_of p) (suc n)

-- what the operations of sums and products come to, each in the class that it needs
abbrev pub arithmetic_of : Classes → Sym → Sort → List Fraction → Value
arithmetic_of has Add s (p ∷ q ∷ []) = where_has (has s Semiring) (sum_value p q)
arithmetic_of has Mul s (p ∷ q ∷ []) = where_has (has s Semiring) (product_value p q)
arithmetic_of has Neg s (p ∷ []) = where_has (has s Ring) (Num (negative_of p))
arithmetic_of has Sub s (p ∷ q ∷ []) = where_has (has s Ring) (sum_value p (negative_of q))
arithmetic_of has Inv s (p ∷ []) = where_has (has s Field && has s CharZero) (Num (inverse_of p))
arithmetic_of has Div s (p ∷ q ∷ []) = where_has (has s Field && has s CharZero) (product_value p (inverse_of q))
arithmetic_of has Npow s (p ∷ k ∷ []) = where_has (has s Semiring) (power_value p (size_of k))
arithmetic_of has Zpow s (p ∷ k ∷ []) = where_has (has s Field && has s CharZero) (integer_power_value p k.numerator)
arithmetic_of has Nsmul s (k ∷ p ∷ []) = where_has (has s Semiring) (product_value k p)
arithmetic_of has Zsmul s (k ∷ p ∷ []) = where_has (has s Ring) (product_value k p)
arithmetic_of has _ s ps = Without
