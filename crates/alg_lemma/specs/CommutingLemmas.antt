-- Lemmas on literals that change places with a tree, and on products of sums of words.
use Rattle.std.specs.Prelude.{List, [], ◌∷◌, ◌++◌, codes}
use Rattle.alg_law.specs.declared.classes.Class.TheVariants.{Monoid, Ring, Semiring}
use Rattle.alg_law.specs.Rows.{Row}
use Rattle.alg_law.specs.LawWords.{a, b, c, d, always, equal, in_a, negative, number, plus, times, whenever}
use Rattle.alg_lemma.specs.FactorLemmas.{through_factor_lemmas}

-- a = 1 * a + 0
abbrev pub letter_node : Row
letter_node = always (codes "letter_node") (in_a Semiring) (equal a (plus (times (number 1) a) (number 0)))

-- a * 1 = 1 * a
abbrev pub commute_one : Row
commute_one = always (codes "commute_one") (in_a Monoid) (equal (times a (number 1)) (times (number 1) a))

-- where b + b = c and a * b = b * a: a * c = c * a
abbrev pub commute_double : Row
commute_double = whenever (codes "commute_double") (in_a Semiring) (equal (plus b b) c ∷ equal (times a b) (times b a) ∷ []) (equal (times a c) (times c a))

-- where b + b = d, d + 1 = c and a * b = b * a: a * c = c * a
abbrev pub commute_odd : Row
commute_odd = whenever (codes "commute_odd") (in_a Semiring) (equal (plus b b) d ∷ equal (plus d (number 1)) c ∷ equal (times a b) (times b a) ∷ []) (equal (times a c) (times c a))

-- where a * b = b * a: a * -b = -b * a
abbrev pub commute_neg : Row
commute_neg = whenever (codes "commute_neg") (in_a Ring) (equal (times a b) (times b a) ∷ []) (equal (times a (negative b)) (times (negative b) a))

-- where -a = b: a * -1 = b
abbrev pub mul_neg_one : Row
mul_neg_one = whenever (codes "mul_neg_one") (in_a Ring) (equal (negative a) b ∷ []) (equal (times a (negative (number 1))) b)

-- where -a = b: -1 * a = b
abbrev pub neg_one_mul : Row
neg_one_mul = whenever (codes "neg_one_mul") (in_a Ring) (equal (negative a) b ∷ []) (equal (times (negative (number 1)) a) b)

-- where a * b = 0: a * (b * d + c) = a * c
abbrev pub mul_drop : Row
mul_drop = whenever (codes "mul_drop") (in_a Semiring) (equal (times a b) (number 0) ∷ []) (equal (times a (plus (times b d) c)) (times a c))

unfoldable pub commuting_lemmas : List Row
commuting_lemmas = letter_node ∷ commute_one ∷ commute_double ∷ commute_odd ∷ commute_neg ∷ mul_neg_one ∷ neg_one_mul ∷ mul_drop ∷ []

-- these and the lemmas before them
abbrev pub through_commuting_lemmas : List Row
through_commuting_lemmas = through_factor_lemmas ++ commuting_lemmas
