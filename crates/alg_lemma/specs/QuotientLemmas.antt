-- Lemmas on quotients in a field.
use Rattle.std.specs.Prelude.{List, [], ◌∷◌, ◌++◌, codes}
use Rattle.alg_law.specs.declared.classes.Class.TheVariants.{Field}
use Rattle.alg_law.specs.Rows.{Row}
use Rattle.alg_law.specs.LawWords.{a, b, c, d, n, always, equal, in_a, inverse, number, over, power, times, unequal, whenever}
use Rattle.alg_lemma.specs.InverseLemmas.{through_inverse_lemmas}

-- where a ≠ 0: (a ^ n)⁻¹ = a⁻¹ ^ n
abbrev pub pow_inv0 : Row
pow_inv0 = whenever (codes "pow_inv0") (in_a Field) (unequal a (number 0) ∷ []) (equal (inverse (power a n)) (power (inverse a) n))

-- a⁻¹ = 1 / a
abbrev pub inv_eq_one_div : Row
inv_eq_one_div = always (codes "inv_eq_one_div") (in_a Field) (equal (inverse a) (over (number 1) a))

-- a / 1 = a
abbrev pub div_one0 : Row
div_one0 = always (codes "div_one0") (in_a Field) (equal (over a (number 1)) a)

-- where a ≠ 0 and b ≠ 0: (a / b)⁻¹ = b / a
abbrev pub div_inv0 : Row
div_inv0 = whenever (codes "div_inv0") (in_a Field) (unequal a (number 0) ∷ unequal b (number 0) ∷ []) (equal (inverse (over a b)) (over b a))

-- where a ≠ 0: (1 / a)⁻¹ = a
abbrev pub one_div_inv0 : Row
one_div_inv0 = whenever (codes "one_div_inv0") (in_a Field) (unequal a (number 0) ∷ []) (equal (inverse (over (number 1) a)) a)

-- where a ≠ 0 and b ≠ 0: a / b ≠ 0
abbrev pub div_ne_zero : Row
div_ne_zero = whenever (codes "div_ne_zero") (in_a Field) (unequal a (number 0) ∷ unequal b (number 0) ∷ []) (unequal (over a b) (number 0))

-- where b * c = d and b ≠ 0: a / b * d = a * c
abbrev pub div_mul_lit : Row
div_mul_lit = whenever (codes "div_mul_lit") (in_a Field) (equal (times b c) d ∷ unequal b (number 0) ∷ []) (equal (times (over a b) d) (times a c))

unfoldable pub quotient_lemmas : List Row
quotient_lemmas = pow_inv0 ∷ inv_eq_one_div ∷ div_one0 ∷ div_inv0 ∷ one_div_inv0 ∷ div_ne_zero ∷ div_mul_lit ∷ []

-- these and the lemmas before them
abbrev pub through_quotient_lemmas : List Row
through_quotient_lemmas = through_inverse_lemmas ++ quotient_lemmas
