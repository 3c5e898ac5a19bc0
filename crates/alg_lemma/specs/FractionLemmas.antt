-- Lemmas on sums of fractions, and on fractions with other denominators.
use Rattle.std.specs.Prelude.{List, [], ◌∷◌, ◌++◌, codes}
use Rattle.alg_law.specs.declared.classes.Class.TheVariants.{Field}
use Rattle.alg_law.specs.Rows.{Row}
use Rattle.alg_law.specs.LawWords.{a, b, c, d, equal, in_a, number, over, plus, times, unequal, whenever}
use Rattle.alg_lemma.specs.QuotientLemmas.{through_quotient_lemmas}

-- where a * c = d, b * c = d and c ≠ 0: a = b
abbrev pub eq_of_mul : Row
eq_of_mul = whenever (codes "eq_of_mul") (in_a Field) (equal (times a c) d ∷ equal (times b c) d ∷ unequal c (number 0) ∷ []) (equal a b)

-- where a + b = c: a / d + b / d = c / d
abbrev pub div_add_same : Row
div_add_same = whenever (codes "div_add_same") (in_a Field) (equal (plus a b) c ∷ []) (equal (plus (over a d) (over b d)) (over c d))

-- where a * c = d: d / b = a * (c / b)
abbrev pub div_split : Row
div_split = whenever (codes "div_split") (in_a Field) (equal (times a c) d ∷ []) (equal (over d b) (times a (over c b)))

-- where b * c = d, b ≠ 0 and c ≠ 0: a * (c / d) = a / b
abbrev pub div_join : Row
div_join = whenever (codes "div_join") (in_a Field) (equal (times b c) d ∷ unequal b (number 0) ∷ unequal c (number 0) ∷ []) (equal (times a (over c d)) (over a b))

-- where b * c = d, b ≠ 0 and c ≠ 0: a / b = a * c / d
abbrev pub div_expand : Row
div_expand = whenever (codes "div_expand") (in_a Field) (equal (times b c) d ∷ unequal b (number 0) ∷ unequal c (number 0) ∷ []) (equal (over a b) (over (times a c) d))

-- where a * b = c and b ≠ 0: a = c / b
abbrev pub eq_div_of_mul : Row
eq_div_of_mul = whenever (codes "eq_div_of_mul") (in_a Field) (equal (times a b) c ∷ unequal b (number 0) ∷ []) (equal a (over c b))

unfoldable pub fraction_lemmas : List Row
fraction_lemmas = eq_of_mul ∷ div_add_same ∷ div_split ∷ div_join ∷ div_expand ∷ eq_div_of_mul ∷ []

-- these and the lemmas before them
abbrev pub through_fraction_lemmas : List Row
through_fraction_lemmas = through_quotient_lemmas ++ fraction_lemmas
