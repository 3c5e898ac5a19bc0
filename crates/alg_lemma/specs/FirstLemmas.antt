-- The first lemmas.
use Rattle.std.specs.Prelude.{List, [], ◌∷◌, codes}
use Rattle.alg_law.specs.declared.classes.Class.TheVariants.{AddCommMonoid, AddGroup, CommMonoid, Group, IsStrictOrderedRing, Ring}
use Rattle.alg_law.specs.Rows.{Row}
use Rattle.alg_law.specs.LawWords.{a, b, c, always, equal, in_a, inverse, less, negative, number, plus, times, whenever}

-- a + (b + c) = b + (a + c)
abbrev pub add_left_comm : Row
add_left_comm = always (codes "add_left_comm") (in_a AddCommMonoid) (equal (plus a (plus b c)) (plus b (plus a c)))

-- a * (b * c) = b * (a * c)
abbrev pub mul_left_comm : Row
mul_left_comm = always (codes "mul_left_comm") (in_a CommMonoid) (equal (times a (times b c)) (times b (times a c)))

-- a + -a = 0
abbrev pub add_neg_cancel : Row
add_neg_cancel = always (codes "add_neg_cancel") (in_a AddGroup) (equal (plus a (negative a)) (number 0))

-- a * a⁻¹ = 1
abbrev pub mul_inv_cancel : Row
mul_inv_cancel = always (codes "mul_inv_cancel") (in_a Group) (equal (times a (inverse a)) (number 1))

-- a⁻¹⁻¹ = a
abbrev pub inv_inv : Row
inv_inv = always (codes "inv_inv") (in_a Group) (equal (inverse (inverse a)) a)

-- (a * b)⁻¹ = b⁻¹ * a⁻¹
abbrev pub mul_inv_rev : Row
mul_inv_rev = always (codes "mul_inv_rev") (in_a Group) (equal (inverse (times a b)) (times (inverse b) (inverse a)))

-- -a * b = -(a * b)
abbrev pub neg_mul : Row
neg_mul = always (codes "neg_mul") (in_a Ring) (equal (times (negative a) b) (negative (times a b)))

-- where 0 < a and 0 < b: 0 < a + b
abbrev pub add_pos : Row
add_pos = whenever (codes "add_pos") (in_a IsStrictOrderedRing) (less (number 0) a ∷ less (number 0) b ∷ []) (less (number 0) (plus a b))

unfoldable pub first_lemmas : List Row
first_lemmas = add_left_comm ∷ mul_left_comm ∷ add_neg_cancel ∷ mul_inv_cancel ∷ inv_inv ∷ mul_inv_rev ∷ neg_mul ∷ add_pos ∷ []

-- these and the lemmas before them
abbrev pub through_first_lemmas : List Row
through_first_lemmas = first_lemmas
