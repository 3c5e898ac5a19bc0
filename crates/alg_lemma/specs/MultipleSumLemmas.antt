-- Lemmas on sums of multiples, and on how they are written.
use Rattle.std.specs.Prelude.{List, [], ◌∷◌, ◌++◌, codes}
use Rattle.alg_law.specs.declared.classes.Class.TheVariants.{AddCommGroup, AddCommMonoid, AddGroup, AddMonoid}
use Rattle.alg_law.specs.Rows.{Row}
use Rattle.alg_law.specs.LawWords.{a, b, c, d, always, equal, in_a, minus, multiple, natural, negative, number, plus, whenever}
use Rattle.alg_lemma.specs.MultipleLemmas.{through_multiple_lemmas}

-- where -a = c: -(a + b) = c + -b
abbrev pub neg_sum_pos : Row
neg_sum_pos = whenever (codes "neg_sum_pos") (in_a AddCommGroup) (equal (negative a) c ∷ []) (equal (negative (plus a b)) (plus c (negative b)))

-- where -a = c: -(a + -b) = c + b
abbrev pub neg_sum_neg : Row
neg_sum_neg = whenever (codes "neg_sum_neg") (in_a AddCommGroup) (equal (negative a) c ∷ []) (equal (negative (plus a (negative b))) (plus c b))

-- where b + d = 0: a + b + (c + d) = a + c
abbrev pub sum_drop : Row
sum_drop = whenever (codes "sum_drop") (in_a AddCommMonoid) (equal (plus b d) (number 0) ∷ []) (equal (plus (plus a b) (plus c d)) (plus a c))

-- 0 + 1 • a = a
abbrev pub sum_first : Row
sum_first = always (codes "sum_first") (in_a AddMonoid) (equal (plus (number 0) (multiple (natural 1) a)) a)

-- 0 + -(1 • a) = -a
abbrev pub sum_first_neg_one : Row
sum_first_neg_one = always (codes "sum_first_neg_one") (in_a AddGroup) (equal (plus (number 0) (negative (multiple (natural 1) a))) (negative a))

-- where a = c: a + 1 • b = c + b
abbrev pub sum_next : Row
sum_next = whenever (codes "sum_next") (in_a AddMonoid) (equal a c ∷ []) (equal (plus a (multiple (natural 1) b)) (plus c b))

-- where a = c: a + -b = c - b
abbrev pub sum_next_neg : Row
sum_next_neg = whenever (codes "sum_next_neg") (in_a AddGroup) (equal a c ∷ []) (equal (plus a (negative b)) (minus c b))

-- where a = c: a + -(1 • b) = c - b
abbrev pub sum_next_neg_one : Row
sum_next_neg_one = whenever (codes "sum_next_neg_one") (in_a AddGroup) (equal a c ∷ []) (equal (plus a (negative (multiple (natural 1) b))) (minus c b))

unfoldable pub multiple_sum_lemmas : List Row
multiple_sum_lemmas = neg_sum_pos ∷ neg_sum_neg ∷ sum_drop ∷ sum_first ∷ sum_first_neg_one ∷ sum_next ∷ sum_next_neg ∷ sum_next_neg_one ∷ []

-- these and the lemmas before them
abbrev pub through_multiple_sum_lemmas : List Row
through_multiple_sum_lemmas = through_multiple_lemmas ++ multiple_sum_lemmas
