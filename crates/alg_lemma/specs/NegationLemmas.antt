-- Lemmas on negation, and on sums with a negation.
use Rattle.std.specs.Prelude.{List, [], ◌∷◌, ◌++◌, codes}
use Rattle.alg_law.specs.declared.classes.Class.TheVariants.{AddCommGroup, AddGroup}
use Rattle.alg_law.specs.Rows.{Row}
use Rattle.alg_law.specs.LawWords.{a, b, c, always, equal, in_a, negative, number, plus, whenever}
use Rattle.alg_lemma.specs.RearrangingLemmas.{through_rearranging_lemmas}

-- where a + b = 0: b = -a
abbrev pub eq_neg_of_add : Row
eq_neg_of_add = whenever (codes "eq_neg_of_add") (in_a AddGroup) (equal (plus a b) (number 0) ∷ []) (equal b (negative a))

-- -(-a) = a
abbrev pub neg_neg : Row
neg_neg = always (codes "neg_neg") (in_a AddGroup) (equal (negative (negative a)) a)

-- -0 = 0
abbrev pub neg_zero : Row
neg_zero = always (codes "neg_zero") (in_a AddGroup) (equal (negative (number 0)) (number 0))

-- -a + -b = -(a + b)
abbrev pub neg_add_neg : Row
neg_add_neg = always (codes "neg_add_neg") (in_a AddCommGroup) (equal (plus (negative a) (negative b)) (negative (plus a b)))

-- where a + b = c: -a + -b = -c
abbrev pub neg_add_neg_lit : Row
neg_add_neg_lit = whenever (codes "neg_add_neg_lit") (in_a AddCommGroup) (equal (plus a b) c ∷ []) (equal (plus (negative a) (negative b)) (negative c))

-- where c + b = a: a + -b = c
abbrev pub add_neg_pos : Row
add_neg_pos = whenever (codes "add_neg_pos") (in_a AddGroup) (equal (plus c b) a ∷ []) (equal (plus a (negative b)) c)

-- where a + c = b: a + -b = -c
abbrev pub add_neg_neg : Row
add_neg_neg = whenever (codes "add_neg_neg") (in_a AddCommGroup) (equal (plus a c) b ∷ []) (equal (plus a (negative b)) (negative c))

unfoldable pub negation_lemmas : List Row
negation_lemmas = eq_neg_of_add ∷ neg_neg ∷ neg_zero ∷ neg_add_neg ∷ neg_add_neg_lit ∷ add_neg_pos ∷ add_neg_neg ∷ []

-- these and the lemmas before them
abbrev pub through_negation_lemmas : List Row
through_negation_lemmas = through_rearranging_lemmas ++ negation_lemmas
