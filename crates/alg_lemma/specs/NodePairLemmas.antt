-- Lemmas on sums of two products by powers with their rests.
use Rattle.std.specs.Prelude.{List, [], ◌∷◌, ◌++◌, codes}
use Rattle.alg_law.specs.declared.classes.Class.TheVariants.{AddCommMonoid, AddMonoid, Semiring}
use Rattle.alg_law.specs.Rows.{Row}
use Rattle.alg_law.specs.LawWords.{a, b, c, d, m, n, equal, in_a, number, plus, power, times, whenever}
use Rattle.alg_lemma.specs.NodeSumLemmas.{through_node_sum_lemmas}

-- where a + b = c: a + d + (b + 0) = c + d
abbrev pub add_pair_right : Row
add_pair_right = whenever (codes "add_pair_right") (in_a AddCommMonoid) (equal (plus a b) c ∷ []) (equal (plus (plus a d) (plus b (number 0))) (plus c d))

-- where a + b = 0: a + c + (b + d) = c + d
abbrev pub add_pair_drop : Row
add_pair_drop = whenever (codes "add_pair_drop") (in_a AddCommMonoid) (equal (plus a b) (number 0) ∷ []) (equal (plus (plus a c) (plus b d)) (plus c d))

-- where a + b = c: a + (b + d) = c + d
abbrev pub add_front : Row
add_front = whenever (codes "add_front") (in_a AddMonoid) (equal (plus a b) c ∷ []) (equal (plus a (plus b d)) (plus c d))

-- where a + b = 0: a + (b + d) = d
abbrev pub add_front_drop : Row
add_front_drop = whenever (codes "add_front_drop") (in_a AddMonoid) (equal (plus a b) (number 0) ∷ []) (equal (plus a (plus b d)) d)

-- where b ^ m * b ^ n = c: a * c = (a * b ^ m + 0) * b ^ n
abbrev pub node_split : Row
node_split = whenever (codes "node_split") (in_a Semiring) (equal (times (power b m) (power b n)) c ∷ []) (equal (times a c) (times (plus (times a (power b m)) (number 0)) (power b n)))

-- where b ^ m * b ^ n = c: (a * b ^ m + 0) * b ^ n = a * c
abbrev pub node_join : Row
node_join = whenever (codes "node_join") (in_a Semiring) (equal (times (power b m) (power b n)) c ∷ []) (equal (times (plus (times a (power b m)) (number 0)) (power b n)) (times a c))

unfoldable pub node_pair_lemmas : List Row
node_pair_lemmas = add_pair_right ∷ add_pair_drop ∷ add_front ∷ add_front_drop ∷ node_split ∷ node_join ∷ []

-- these and the lemmas before them
abbrev pub through_node_pair_lemmas : List Row
through_node_pair_lemmas = through_node_sum_lemmas ++ node_pair_lemmas
