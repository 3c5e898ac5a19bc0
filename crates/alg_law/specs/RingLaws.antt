-- Laws of semirings and fields, and of what is unequal.
use Rattle.std.specs.Prelude.{List, [], ◌∷◌, codes}
use Rattle.alg_law.specs.declared.classes.Class.TheVariants.{AddGroup, Semiring, Ring, Field, IsStrictOrderedRing}
use Rattle.alg_law.specs.Rows.{Row}
use Rattle.alg_law.specs.LawWords.{a, b, c, n, number, plus, times, negative, inverse, power, equal, unequal, in_a, in_both, in_any, always, whenever}

-- a * (b + c) = a * b + a * c
abbrev pub left_distrib : Row
left_distrib = always (codes "left_distrib") (in_a Semiring) (equal (times a (plus b c)) (plus (times a b) (times a c)))

-- (a + b) * c = a * c + b * c
abbrev pub right_distrib : Row
right_distrib = always (codes "right_distrib") (in_a Semiring) (equal (times (plus a b) c) (plus (times a c) (times b c)))

-- 0 * a = 0
abbrev pub zero_mul : Row
zero_mul = always (codes "zero_mul") (in_a Semiring) (equal (times (number 0) a) (number 0))

-- a * 0 = 0
abbrev pub mul_zero : Row
mul_zero = always (codes "mul_zero") (in_a Semiring) (equal (times a (number 0)) (number 0))

unfoldable pub semiring_laws : List Row
semiring_laws = left_distrib ∷ right_distrib ∷ zero_mul ∷ mul_zero ∷ []

-- where a ≠ 0: a * a⁻¹ = 1
abbrev pub mul_inv_cancel0 : Row
mul_inv_cancel0 = whenever (codes "mul_inv_cancel0") (in_a Field) (unequal a (number 0) ∷ []) (equal (times a (inverse a)) (number 1))

-- 0⁻¹ = 0
abbrev pub inv_zero : Row
inv_zero = always (codes "inv_zero") (in_a Field) (equal (inverse (number 0)) (number 0))

-- 1 ≠ 0
abbrev pub one_ne_zero : Row
one_ne_zero = always (codes "one_ne_zero") (in_a Field) (unequal (number 1) (number 0))

-- where a ≠ 0: a⁻¹ ≠ 0
abbrev pub inv_ne_zero : Row
inv_ne_zero = whenever (codes "inv_ne_zero") (in_a Field) (unequal a (number 0) ∷ []) (unequal (inverse a) (number 0))

-- where a ≠ 0 and b ≠ 0: a * b ≠ 0
abbrev pub mul_ne_zero : Row
mul_ne_zero = whenever (codes "mul_ne_zero") (in_a Field) (unequal a (number 0) ∷ unequal b (number 0) ∷ []) (unequal (times a b) (number 0))

-- where a ≠ 0: a ^ n ≠ 0
abbrev pub pow_ne_zero : Row
pow_ne_zero = whenever (codes "pow_ne_zero") (in_a Field) (unequal a (number 0) ∷ []) (unequal (power a n) (number 0))

-- where a ≠ b and c ≠ 0: a * c ≠ b * c
abbrev pub mul_right_ne : Row
mul_right_ne = whenever (codes "mul_right_ne") (in_a Field) (unequal a b ∷ unequal c (number 0) ∷ []) (unequal (times a c) (times b c))

unfoldable pub field_laws : List Row
field_laws = mul_inv_cancel0 ∷ inv_zero ∷ one_ne_zero ∷ inv_ne_zero ∷ mul_ne_zero ∷ pow_ne_zero ∷ mul_right_ne ∷ []

-- where a ≠ 0 and b ≠ 0: a * b ≠ 0, in an ordered ring
abbrev pub mul_ne_zero_ord : Row
mul_ne_zero_ord = whenever (codes "mul_ne_zero_ord") (in_both Ring IsStrictOrderedRing) (unequal a (number 0) ∷ unequal b (number 0) ∷ []) (unequal (times a b) (number 0))

-- where a ≠ 0: a ^ n ≠ 0, in an ordered ring
abbrev pub pow_ne_zero_ord : Row
pow_ne_zero_ord = whenever (codes "pow_ne_zero_ord") (in_both Ring IsStrictOrderedRing) (unequal a (number 0) ∷ []) (unequal (power a n) (number 0))

-- where a ≠ b: b ≠ a
abbrev pub ne_symm : Row
ne_symm = whenever (codes "ne_symm") in_any (unequal a b ∷ []) (unequal b a)

-- where a ≠ 0: -a ≠ 0
abbrev pub neg_ne_zero : Row
neg_ne_zero = whenever (codes "neg_ne_zero") (in_a AddGroup) (unequal a (number 0) ∷ []) (unequal (negative a) (number 0))

-- where a ≠ b: a + c ≠ b + c
abbrev pub add_right_ne : Row
add_right_ne = whenever (codes "add_right_ne") (in_a AddGroup) (unequal a b ∷ []) (unequal (plus a c) (plus b c))

unfoldable pub unequal_laws : List Row
unequal_laws = mul_ne_zero_ord ∷ pow_ne_zero_ord ∷ ne_symm ∷ neg_ne_zero ∷ add_right_ne ∷ []
