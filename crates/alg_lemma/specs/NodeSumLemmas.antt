-- Lemmas on sums in which a side is a product by a power and a rest.
use Rattle.std.specs.Prelude.{List, [], ◌∷◌, ◌++◌, codes}
use Rattle.alg_law.specs.declared.classes.Class.TheVariants.{AddCommMonoid, AddMonoid, Semiring}
use Rattle.alg_law.specs.Rows.{Row}
use Rattle.alg_law.specs.LawWords.{a, b, c, d, always, equal, in_a, number, plus, times, whenever}
use Rattle.alg_lemma.specs.ComparisonLemmas.{through_comparison_lemmas}

-- where b + c = d: a + b + c = a + d
abbrev pub add_tail : Row
add_tail = whenever (codes "add_tail") (in_a AddMonoid) (equal (plus b c) d ∷ []) (equal (plus (plus a b) c) (plus a d))

-- a + 0 + b = a + b
abbrev pub add_tail_zero : Row
add_tail_zero = always (codes "add_tail_zero") (in_a AddMonoid) (equal (plus (plus a (number 0)) b) (plus a b))

-- where b + c = d: b + (a + c) = a + d
abbrev pub add_head : Row
add_head = whenever (codes "add_head") (in_a AddCommMonoid) (equal (plus b c) d ∷ []) (equal (plus b (plus a c)) (plus a d))

-- b + (a + 0) = a + b
abbrev pub add_head_zero : Row
add_head_zero = always (codes "add_head_zero") (in_a AddCommMonoid) (equal (plus b (plus a (number 0))) (plus a b))

-- where a + b = c: a * d + b * d = c * d
abbrev pub add_mul_right : Row
add_mul_right = whenever (codes "add_mul_right") (in_a Semiring) (equal (plus a b) c ∷ []) (equal (plus (times a d) (times b d)) (times c d))

-- where a + b = 0: a * d + b * d = 0
abbrev pub add_mul_right_zero : Row
add_mul_right_zero = whenever (codes "add_mul_right_zero") (in_a Semiring) (equal (plus a b) (number 0) ∷ []) (equal (plus (times a d) (times b d)) (number 0))

-- where a + b = c: a + 0 + (b + d) = c + d
abbrev pub add_pair_left : Row
add_pair_left = whenever (codes "add_pair_left") (in_a AddCommMonoid) (equal (plus a b) c ∷ []) (equal (plus (plus a (number 0)) (plus b d)) (plus c d))

unfoldable pub node_sum_lemmas : List Row
node_sum_lemmas = add_tail ∷ add_tail_zero ∷ add_head ∷ add_head_zero ∷ add_mul_right ∷ add_mul_right_zero ∷ add_pair_left ∷ []

-- these and the lemmas before them
abbrev pub through_node_sum_lemmas : List Row
through_node_sum_lemmas = through_comparison_lemmas ++ node_sum_lemmas
