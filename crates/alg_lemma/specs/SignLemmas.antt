-- Lemmas on differences, on products with signs, and on powers step by step.
use Rattle.std.specs.Prelude.{List, [], ◌∷◌, ◌++◌, codes}
use Rattle.alg_law.specs.declared.classes.Class.TheVariants.{AddCommGroup, AddGroup, Monoid, Ring}
use Rattle.alg_law.specs.Rows.{Row}
use Rattle.alg_law.specs.LawWords.{a, b, c, m, n, always, equal, in_a, minus, natural, natural_plus, negative, plus, power, times, whenever}
use Rattle.alg_lemma.specs.LemmaWords.{natural_equal}
use Rattle.alg_lemma.specs.NegationLemmas.{through_negation_lemmas}

-- where c + a = b: -a + b = c
abbrev pub neg_add_pos : Row
neg_add_pos = whenever (codes "neg_add_pos") (in_a AddCommGroup) (equal (plus c a) b ∷ []) (equal (plus (negative a) b) c)

-- where b + c = a: -a + b = -c
abbrev pub neg_add_negr : Row
neg_add_negr = whenever (codes "neg_add_negr") (in_a AddCommGroup) (equal (plus b c) a ∷ []) (equal (plus (negative a) b) (negative c))

-- where c + b = a: a - b = c
abbrev pub sub_eq_of_add : Row
sub_eq_of_add = whenever (codes "sub_eq_of_add") (in_a AddGroup) (equal (plus c b) a ∷ []) (equal (minus a b) c)

-- where a * b = c: -a * b = -c
abbrev pub neg_mul_lit : Row
neg_mul_lit = whenever (codes "neg_mul_lit") (in_a Ring) (equal (times a b) c ∷ []) (equal (times (negative a) b) (negative c))

-- a * -b = -(a * b)
abbrev pub mul_neg : Row
mul_neg = always (codes "mul_neg") (in_a Ring) (equal (times a (negative b)) (negative (times a b)))

-- where a * b = c: a * -b = -c
abbrev pub mul_neg_lit : Row
mul_neg_lit = whenever (codes "mul_neg_lit") (in_a Ring) (equal (times a b) c ∷ []) (equal (times a (negative b)) (negative c))

-- where a * b = c: -a * -b = c
abbrev pub neg_mul_neg : Row
neg_mul_neg = whenever (codes "neg_mul_neg") (in_a Ring) (equal (times a b) c ∷ []) (equal (times (negative a) (negative b)) c)

-- a ^ 1 = a
abbrev pub pow_one : Row
pow_one = always (codes "pow_one") (in_a Monoid) (equal (power a (natural 1)) a)

-- where m + m = n, a ^ m = b and b * b = c: a ^ n = c
abbrev pub pow_double : Row
pow_double = whenever (codes "pow_double") (in_a Monoid) (natural_equal (natural_plus m m) n ∷ equal (power a m) b ∷ equal (times b b) c ∷ []) (equal (power a n) c)

-- where m + 1 = n, a ^ m = b and b * a = c: a ^ n = c
abbrev pub pow_next : Row
pow_next = whenever (codes "pow_next") (in_a Monoid) (natural_equal (natural_plus m (natural 1)) n ∷ equal (power a m) b ∷ equal (times b a) c ∷ []) (equal (power a n) c)

unfoldable pub sign_lemmas : List Row
sign_lemmas = neg_add_pos ∷ neg_add_negr ∷ sub_eq_of_add ∷ neg_mul_lit ∷ mul_neg ∷ mul_neg_lit ∷ neg_mul_neg ∷ pow_one ∷ pow_double ∷ pow_next ∷ []

-- these and the lemmas before them
abbrev pub through_sign_lemmas : List Row
through_sign_lemmas = through_negation_lemmas ++ sign_lemmas
