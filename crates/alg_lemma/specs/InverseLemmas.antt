-- Lemmas on inverses in a field.
use Rattle.std.specs.Prelude.{List, [], ◌∷◌, ◌++◌, codes}
use Rattle.alg_law.specs.declared.classes.Class.TheVariants.{Field}
use Rattle.alg_law.specs.Rows.{Row}
use Rattle.alg_law.specs.LawWords.{a, b, always, equal, in_a, inverse, negative, number, times, unequal, whenever}
use Rattle.alg_lemma.specs.SignLemmas.{through_sign_lemmas}

-- where a ≠ 0 and a * b = 1: a⁻¹ = b
abbrev pub inv_unique : Row
inv_unique = whenever (codes "inv_unique") (in_a Field) (unequal a (number 0) ∷ equal (times a b) (number 1) ∷ []) (equal (inverse a) b)

-- where a ≠ 0: a⁻¹ * a = 1
abbrev pub inv_mul_cancel0 : Row
inv_mul_cancel0 = whenever (codes "inv_mul_cancel0") (in_a Field) (unequal a (number 0) ∷ []) (equal (times (inverse a) a) (number 1))

-- where a ≠ 0: a⁻¹⁻¹ = a
abbrev pub inv_inv0 : Row
inv_inv0 = whenever (codes "inv_inv0") (in_a Field) (unequal a (number 0) ∷ []) (equal (inverse (inverse a)) a)

-- where b ≠ 0: a * b * b⁻¹ = a
abbrev pub mul_inv_cancel_right0 : Row
mul_inv_cancel_right0 = whenever (codes "mul_inv_cancel_right0") (in_a Field) (unequal b (number 0) ∷ []) (equal (times (times a b) (inverse b)) a)

-- where a ≠ 0 and b ≠ 0: (a * b)⁻¹ = a⁻¹ * b⁻¹
abbrev pub mul_inv0 : Row
mul_inv0 = whenever (codes "mul_inv0") (in_a Field) (unequal a (number 0) ∷ unequal b (number 0) ∷ []) (equal (inverse (times a b)) (times (inverse a) (inverse b)))

-- where a ≠ 0: (-a)⁻¹ = -a⁻¹
abbrev pub neg_inv0 : Row
neg_inv0 = whenever (codes "neg_inv0") (in_a Field) (unequal a (number 0) ∷ []) (equal (inverse (negative a)) (negative (inverse a)))

-- where a ≠ 0 and a⁻¹ = b: (-a)⁻¹ = -b
abbrev pub neg_inv_lit : Row
neg_inv_lit = whenever (codes "neg_inv_lit") (in_a Field) (unequal a (number 0) ∷ equal (inverse a) b ∷ []) (equal (inverse (negative a)) (negative b))

-- 1⁻¹ = 1
abbrev pub one_inv0 : Row
one_inv0 = always (codes "one_inv0") (in_a Field) (equal (inverse (number 1)) (number 1))

unfoldable pub inverse_lemmas : List Row
inverse_lemmas = inv_unique ∷ inv_mul_cancel0 ∷ inv_inv0 ∷ mul_inv_cancel_right0 ∷ mul_inv0 ∷ neg_inv0 ∷ neg_inv_lit ∷ one_inv0 ∷ []

-- these and the lemmas before them
abbrev pub through_inverse_lemmas : List Row
through_inverse_lemmas = through_sign_lemmas ++ inverse_lemmas
