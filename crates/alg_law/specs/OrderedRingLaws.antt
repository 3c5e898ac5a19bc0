-- Laws of ordered rings and fields, and of the order of the natural numbers.
use Rattle.std.specs.Prelude.{List, [], ◌∷◌, codes}
use Rattle.alg_law.specs.declared.classes.Class.TheVariants.{Ring, Field, IsStrictOrderedRing}
use Rattle.alg_law.specs.Rows.{Row}
use Rattle.alg_law.specs.LawWords.{a, b, c, d, n, number, plus, times, negative, inverse, power, absolute, factorial, equal, unequal, less, at_most, in_a, in_both, in_naturals, always, whenever}

-- 0 < 1
abbrev pub zero_lt_one : Row
zero_lt_one = always (codes "zero_lt_one") (in_a IsStrictOrderedRing) (less (number 0) (number 1))

-- where a ≤ b and c ≤ d: a + c ≤ b + d
abbrev pub add_le_add : Row
add_le_add = whenever (codes "add_le_add") (in_a IsStrictOrderedRing) (at_most a b ∷ at_most c d ∷ []) (at_most (plus a c) (plus b d))

-- where a < b and c < d: a + c < b + d
abbrev pub add_lt_add : Row
add_lt_add = whenever (codes "add_lt_add") (in_a IsStrictOrderedRing) (less a b ∷ less c d ∷ []) (less (plus a c) (plus b d))

-- where a < b and c ≤ d: a + c < b + d
abbrev pub add_lt_add_le : Row
add_lt_add_le = whenever (codes "add_lt_add_le") (in_a IsStrictOrderedRing) (less a b ∷ at_most c d ∷ []) (less (plus a c) (plus b d))

-- where 0 < a and 0 < b: 0 < a * b
abbrev pub mul_pos : Row
mul_pos = whenever (codes "mul_pos") (in_a IsStrictOrderedRing) (less (number 0) a ∷ less (number 0) b ∷ []) (less (number 0) (times a b))

-- where 0 ≤ a and 0 ≤ b: 0 ≤ a * b
abbrev pub mul_nonneg : Row
mul_nonneg = whenever (codes "mul_nonneg") (in_a IsStrictOrderedRing) (at_most (number 0) a ∷ at_most (number 0) b ∷ []) (at_most (number 0) (times a b))

-- where 0 < a: 0 < a ^ n
abbrev pub pow_pos : Row
pow_pos = whenever (codes "pow_pos") (in_a IsStrictOrderedRing) (less (number 0) a ∷ []) (less (number 0) (power a n))

-- where 0 ≤ a: 0 ≤ a ^ n
abbrev pub pow_nonneg : Row
pow_nonneg = whenever (codes "pow_nonneg") (in_a IsStrictOrderedRing) (at_most (number 0) a ∷ []) (at_most (number 0) (power a n))

-- where a < b and 0 < c: a * c < b * c
abbrev pub mul_lt_mul_right : Row
mul_lt_mul_right = whenever (codes "mul_lt_mul_right") (in_a IsStrictOrderedRing) (less a b ∷ less (number 0) c ∷ []) (less (times a c) (times b c))

-- where a ≤ b and 0 ≤ c: a * c ≤ b * c
abbrev pub mul_le_mul_right : Row
mul_le_mul_right = whenever (codes "mul_le_mul_right") (in_a IsStrictOrderedRing) (at_most a b ∷ at_most (number 0) c ∷ []) (at_most (times a c) (times b c))

unfoldable pub ordered_semiring_laws : List Row
ordered_semiring_laws = zero_lt_one ∷ add_le_add ∷ add_lt_add ∷ add_lt_add_le ∷ mul_pos ∷ mul_nonneg ∷ pow_pos ∷ pow_nonneg ∷ mul_lt_mul_right ∷ mul_le_mul_right ∷ []

-- 0 ≤ a * a
abbrev pub mul_self_nonneg : Row
mul_self_nonneg = always (codes "mul_self_nonneg") (in_both Ring IsStrictOrderedRing) (at_most (number 0) (times a a))

-- where 0 ≤ a: abs a = a
abbrev pub abs_of_nonneg : Row
abs_of_nonneg = whenever (codes "abs_of_nonneg") (in_both Ring IsStrictOrderedRing) (at_most (number 0) a ∷ []) (equal (absolute a) a)

-- where a ≤ 0: abs a = -a
abbrev pub abs_of_nonpos : Row
abs_of_nonpos = whenever (codes "abs_of_nonpos") (in_both Ring IsStrictOrderedRing) (at_most a (number 0) ∷ []) (equal (absolute a) (negative a))

-- 0 ≤ abs a
abbrev pub abs_nonneg : Row
abs_nonneg = always (codes "abs_nonneg") (in_both Ring IsStrictOrderedRing) (at_most (number 0) (absolute a))

-- where a ≠ 0: 0 < abs a
abbrev pub abs_pos : Row
abs_pos = whenever (codes "abs_pos") (in_both Ring IsStrictOrderedRing) (unequal a (number 0) ∷ []) (less (number 0) (absolute a))

-- where 0 < a: 0 < a⁻¹
abbrev pub inv_pos : Row
inv_pos = whenever (codes "inv_pos") (in_both Field IsStrictOrderedRing) (less (number 0) a ∷ []) (less (number 0) (inverse a))

-- where 0 ≤ a: 0 ≤ a⁻¹
abbrev pub inv_nonneg : Row
inv_nonneg = whenever (codes "inv_nonneg") (in_both Field IsStrictOrderedRing) (at_most (number 0) a ∷ []) (at_most (number 0) (inverse a))

-- 0 ≤ a, in ℕ
abbrev pub nat_nonneg : Row
nat_nonneg = always (codes "nat_nonneg") in_naturals (at_most (number 0) a)

-- 0 < Nat.factorial a, in ℕ
abbrev pub fact_pos : Row
fact_pos = always (codes "fact_pos") in_naturals (less (number 0) (factorial a))

unfoldable pub ordered_ring_laws : List Row
ordered_ring_laws = mul_self_nonneg ∷ abs_of_nonneg ∷ abs_of_nonpos ∷ abs_nonneg ∷ abs_pos ∷ inv_pos ∷ inv_nonneg ∷ nat_nonneg ∷ fact_pos ∷ []
