-- Lemmas on factors that are moved out of quotients and inverses.
use Rattle.std.specs.Prelude.{List, [], ◌∷◌, ◌++◌, codes}
use Rattle.alg_law.specs.declared.classes.Class.TheVariants.{AddMonoid, CommMonoid, Field, LinearOrder, Ring}
use Rattle.alg_law.specs.Rows.{Row}
use Rattle.alg_law.specs.LawWords.{a, b, c, d, n, always, equal, in_a, in_both, inverse, less, minus, number, over, power, times, unequal, whenever}
use Rattle.alg_lemma.specs.PositivityLemmas.{through_positivity_lemmas}

-- where 0 < a: a ≠ 0
abbrev pub ne_zero_of_pos_order : Row
ne_zero_of_pos_order = whenever (codes "ne_zero_of_pos_order") (in_both AddMonoid LinearOrder) (less (number 0) a ∷ []) (unequal a (number 0))

-- where a ^ n = c and b ^ n = d: (a * b) ^ n = c * d
abbrev pub mul_pow_of : Row
mul_pow_of = whenever (codes "mul_pow_of") (in_a CommMonoid) (equal (power a n) c ∷ equal (power b n) d ∷ []) (equal (power (times a b) n) (times c d))

-- where a * b = c: a ^ n * b ^ n = c ^ n
abbrev pub pow_mul_pow : Row
pow_mul_pow = whenever (codes "pow_mul_pow") (in_a CommMonoid) (equal (times a b) c ∷ []) (equal (times (power a n) (power b n)) (power c n))

-- (a - b) * c = a * c - b * c
abbrev pub sub_mul : Row
sub_mul = always (codes "sub_mul") (in_a Ring) (equal (times (minus a b) c) (minus (times a c) (times b c)))

-- where a ≠ 0 and b ≠ 0: (a / b)⁻¹ = a⁻¹ * b
abbrev pub div_inv_mul : Row
div_inv_mul = whenever (codes "div_inv_mul") (in_a Field) (unequal a (number 0) ∷ unequal b (number 0) ∷ []) (equal (inverse (over a b)) (times (inverse a) b))

-- where a * b = c and a ≠ 0: a⁻¹ * c = b
abbrev pub inv_mul_of : Row
inv_mul_of = whenever (codes "inv_mul_of") (in_a Field) (equal (times a b) c ∷ unequal a (number 0) ∷ []) (equal (times (inverse a) c) b)

-- where a * b = c, a ≠ 0 and b ≠ 0: c ≠ 0
abbrev pub ne_zero_of_mul : Row
ne_zero_of_mul = whenever (codes "ne_zero_of_mul") (in_a Field) (equal (times a b) c ∷ unequal a (number 0) ∷ unequal b (number 0) ∷ []) (unequal c (number 0))

unfoldable pub factor_lemmas : List Row
factor_lemmas = ne_zero_of_pos_order ∷ mul_pow_of ∷ pow_mul_pow ∷ sub_mul ∷ div_inv_mul ∷ inv_mul_of ∷ ne_zero_of_mul ∷ []

-- these and the lemmas before them
abbrev pub through_factor_lemmas : List Row
through_factor_lemmas = through_positivity_lemmas ++ factor_lemmas
