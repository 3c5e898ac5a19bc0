-- Lemmas on products of fractions.
use Rattle.std.specs.Prelude.{List, [], ◌∷◌, ◌++◌, codes}
use Rattle.alg_law.specs.declared.classes.Class.TheVariants.{Field}
use Rattle.alg_law.specs.Rows.{Row}
use Rattle.alg_law.specs.LawWords.{a, b, c, d, always, equal, in_a, number, over, times, unequal, whenever}
use Rattle.alg_lemma.specs.FractionLemmas.{through_fraction_lemmas}

-- a / b * (c / d) = a / d * (c / b)
abbrev pub div_mul_swap : Row
div_mul_swap = always (codes "div_mul_swap") (in_a Field) (equal (times (over a b) (over c d)) (times (over a d) (over c b)))

-- where b ≠ 0 and d ≠ 0: a / b * (c / d) = a * c / (b * d)
abbrev pub div_mul_div : Row
div_mul_div = whenever (codes "div_mul_div") (in_a Field) (unequal b (number 0) ∷ unequal d (number 0) ∷ []) (equal (times (over a b) (over c d)) (over (times a c) (times b d)))

-- where a * c = b: a * (c / d) = b / d
abbrev pub mul_div_right : Row
mul_div_right = whenever (codes "mul_div_right") (in_a Field) (equal (times a c) b ∷ []) (equal (times a (over c d)) (over b d))

-- where a * c = b: a / d * c = b / d
abbrev pub mul_div_left : Row
mul_div_left = whenever (codes "mul_div_left") (in_a Field) (equal (times a c) b ∷ []) (equal (times (over a d) c) (over b d))

-- a * (c / d) = a / d * c
abbrev pub mul_div_comm : Row
mul_div_comm = always (codes "mul_div_comm") (in_a Field) (equal (times a (over c d)) (times (over a d) c))

unfoldable pub fraction_product_lemmas : List Row
fraction_product_lemmas = div_mul_swap ∷ div_mul_div ∷ mul_div_right ∷ mul_div_left ∷ mul_div_comm ∷ []

-- these and the lemmas before them
abbrev pub through_fraction_product_lemmas : List Row
through_fraction_product_lemmas = through_fraction_lemmas ++ fraction_product_lemmas
