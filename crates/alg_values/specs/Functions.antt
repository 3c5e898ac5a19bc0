-- The values of the named functions at fractions, with the meaning that Lean gives them: those of natural numbers and
-- integers, `abs`, `min` and `max`.
use Rattle.std.specs.Prelude.{ℕ, ◌^◌, ℤ, pos, Bool, true, false, ◌&&◌, nat_lt, List, [], ◌∷◌, map, Option, Some, None, if◌then◌else◌}
use Rattle.std.specs.Ordering.{is_le}
use Rattle.alg_terms.specs.declared.sorts.Sort.{Sort}
use Rattle.alg_terms.specs.declared.sorts.Sort.TheVariants.{Nat, Int, Rat, Decl}
use Rattle.alg_terms.specs.declared.symbols.Sym.{Sym}
use Rattle.alg_terms.specs.declared.symbols.Sym.TheVariants.{Abs, Min, Max, NatSub, IDiv, Mod, Gcd, Lcm, Fact, Choose, Fib}
use Rattle.alg_num.specs.Fraction.{Fraction}
use Rattle.alg_num.specs.Order.{order_of}
use Rattle.alg_law.specs.declared.classes.Class.TheVariants.{Ring, IsStrictOrderedRing}
use Rattle.alg_law.specs.Computing.{natural_value, integer_value}
use Rattle.alg_values.specs.Setting.{Classes}
use Rattle.alg_values.specs.Ranges.{in_range, cross_products_in_range}
use Rattle.alg_values.specs.Arithmetic.{whole_number, size_of, where_has}
use Rattle.alg_values.specs.declared.value.Value.{Value}
use Rattle.alg_values.specs.declared.value.Value.TheVariants.{Num, Past, Without}

-- the symbols whose values an extension finds
abbrev pub is_named : Sym → Bool
is_named Abs = true
is_named Min = true
is_named Max = true
is_named NatSub = true
is_named IDiv = true
is_named Mod = true
is_named Gcd = true
is_named Lcm = true
is_named Fact = true
is_named Choose = true
is_named Fib = true
is_named _ = false

-- a whole number, where it is in range
abbrev pub natural_ranged : Option ℕ → Value
natural_ranged None = Without
natural_ranged (Some n) = if nat_lt n (2 ^ 127) then Num (whole_number (pos n)) else Past

abbrev pub integer_ranged : Option ℤ → Value
integer_ranged None = Without
integer_ranged (Some z) = if in_range z then Num (whole_number z) else Past

-- the functions of natural numbers, and those of integers
abbrev pub whole_function : Sort → Sym → List Fraction → Value
whole_function Nat f ps = natural_ranged (natural_value f (map size_of ps))
whole_function Int f ps = integer_ranged (integer_value f (map (λ p. p.numerator) ps))
whole_function Rat f ps = Without
whole_function (Decl k) f ps = Without

abbrev pub absolute_of : Fraction → Fraction
absolute_of p = record { numerator = pos (size_of p); denominator = p.denominator }

-- the first fraction is at most the second
abbrev pub is_at_most : Fraction → Fraction → Bool
is_at_most p q = is_le (order_of p q)

-- one of two fractions, if their comparison is in range
abbrev pub compared_ranged : Fraction → Fraction → Fraction → Value
compared_ranged p q chosen = if cross_products_in_range p q then Num chosen else Past

abbrev pub named_of : Classes → Sym → Sort → List Fraction → Value
named_of has Abs s (p ∷ []) = where_has (has s Ring && has s IsStrictOrderedRing) (Num (absolute_of p))
named_of has Min s (p ∷ q ∷ []) = where_has (has s IsStrictOrderedRing) (compared_ranged p q (if is_at_most p q then p else q))
named_of has Max s (p ∷ q ∷ []) = where_has (has s IsStrictOrderedRing) (compared_ranged p q (if is_at_most p q then q else p))
named_of has f s ps = whole_function s f ps
