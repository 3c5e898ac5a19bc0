-- Lemmas on terms as they are written, first and later ones.
use Rattle.std.specs.Prelude.{List, [], ◌∷◌, ◌++◌, codes}
use Rattle.alg_law.specs.declared.classes.Class.TheVariants.{AddMonoid, Ring, Semiring}
use Rattle.alg_law.specs.Rows.{Row}
use Rattle.alg_law.specs.LawWords.{a, b, c, d, always, equal, in_a, minus, negative, number, plus, times, whenever}
use Rattle.alg_lemma.specs.MergingLemmas.{through_merging_lemmas}

-- 0 + a * 1 = a
abbrev pub first_one : Row
first_one = always (codes "first_one") (in_a Semiring) (equal (plus (number 0) (times a (number 1))) a)

-- 0 + a * -b = -(a * b)
abbrev pub first_neg : Row
first_neg = always (codes "first_neg") (in_a Ring) (equal (plus (number 0) (times a (negative b))) (negative (times a b)))

-- 0 + a * -1 = -a
abbrev pub first_neg_one : Row
first_neg_one = always (codes "first_neg_one") (in_a Ring) (equal (plus (number 0) (times a (negative (number 1)))) (negative a))

-- 0 + 1 * a = a
abbrev pub first_const : Row
first_const = always (codes "first_const") (in_a Semiring) (equal (plus (number 0) (times (number 1) a)) a)

-- where a = c: a + b = c + b
abbrev pub next_coef : Row
next_coef = whenever (codes "next_coef") (in_a AddMonoid) (equal a c ∷ []) (equal (plus a b) (plus c b))

-- where a = c: a + b * 1 = c + b
abbrev pub next_one : Row
next_one = whenever (codes "next_one") (in_a Semiring) (equal a c ∷ []) (equal (plus a (times b (number 1))) (plus c b))

-- where a = c: a + b * -d = c - b * d
abbrev pub next_neg : Row
next_neg = whenever (codes "next_neg") (in_a Ring) (equal a c ∷ []) (equal (plus a (times b (negative d))) (minus c (times b d)))

-- where a = c: a + b * -1 = c - b
abbrev pub next_neg_one : Row
next_neg_one = whenever (codes "next_neg_one") (in_a Ring) (equal a c ∷ []) (equal (plus a (times b (negative (number 1)))) (minus c b))

-- where a = c: a + 1 * b = c + b
abbrev pub next_const : Row
next_const = whenever (codes "next_const") (in_a Semiring) (equal a c ∷ []) (equal (plus a (times (number 1) b)) (plus c b))

-- where a = c: a + 1 * -b = c - b
abbrev pub next_const_neg : Row
next_const_neg = whenever (codes "next_const_neg") (in_a Ring) (equal a c ∷ []) (equal (plus a (times (number 1) (negative b))) (minus c b))

unfoldable pub written_term_lemmas : List Row
written_term_lemmas = first_one ∷ first_neg ∷ first_neg_one ∷ first_const ∷ next_coef ∷ next_one ∷ next_neg ∷ next_neg_one ∷ next_const ∷ next_const_neg ∷ []

-- these and the lemmas before them
abbrev pub through_written_term_lemmas : List Row
through_written_term_lemmas = through_merging_lemmas ++ written_term_lemmas
