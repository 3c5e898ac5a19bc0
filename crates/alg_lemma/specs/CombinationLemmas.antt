-- Lemmas on equations from differences that are 0, and short cuts for sums of products.
use Rattle.std.specs.Prelude.{List, [], ◌∷◌, ◌++◌, codes}
use Rattle.alg_law.specs.declared.classes.Class.TheVariants.{AddGroup, Semiring}
use Rattle.alg_law.specs.Rows.{Row}
use Rattle.alg_law.specs.LawWords.{a, b, c, d, m, n, always, equal, in_a, minus, number, plus, power, times, whenever}
use Rattle.alg_lemma.specs.WrittenTermLemmas.{through_written_term_lemmas}

-- where a - b = 0: a = b
abbrev pub eq_of_sub : Row
eq_of_sub = whenever (codes "eq_of_sub") (in_a AddGroup) (equal (minus a b) (number 0) ∷ []) (equal a b)

-- where a = b: a - b = 0
abbrev pub sub_self_of : Row
sub_self_of = whenever (codes "sub_self_of") (in_a AddGroup) (equal a b ∷ []) (equal (minus a b) (number 0))

-- where c = d and a - b - (c - d) = 0: a = b
abbrev pub eq_of_combo : Row
eq_of_combo = whenever (codes "eq_of_combo") (in_a AddGroup) (equal c d ∷ equal (minus (minus a b) (minus c d)) (number 0) ∷ []) (equal a b)

-- where a + b = c: a * d + 0 + (b * d + 0) = c * d + 0
abbrev pub add_nodes : Row
add_nodes = whenever (codes "add_nodes") (in_a Semiring) (equal (plus a b) c ∷ []) (equal (plus (plus (times a d) (number 0)) (plus (times b d) (number 0))) (plus (times c d) (number 0)))

-- where a + b = 0: a * d + 0 + (b * d + 0) = 0
abbrev pub add_nodes_zero : Row
add_nodes_zero = whenever (codes "add_nodes_zero") (in_a Semiring) (equal (plus a b) (number 0) ∷ []) (equal (plus (plus (times a d) (number 0)) (plus (times b d) (number 0))) (number 0))

-- a * (1 * b + 0) = a * b + 0
abbrev pub mul_unit : Row
mul_unit = always (codes "mul_unit") (in_a Semiring) (equal (times a (plus (times (number 1) b) (number 0))) (plus (times a b) (number 0)))

-- where b ^ m * b ^ n = c: (a * b ^ m + 0) * (1 * b ^ n + 0) = a * c + 0
abbrev pub mul_unit_join : Row
mul_unit_join = whenever (codes "mul_unit_join") (in_a Semiring) (equal (times (power b m) (power b n)) c ∷ []) (equal (times (plus (times a (power b m)) (number 0)) (plus (times (number 1) (power b n)) (number 0))) (plus (times a c) (number 0)))

-- a * b + a * c = a * (b + c)
abbrev pub distrib_back : Row
distrib_back = always (codes "distrib_back") (in_a Semiring) (equal (plus (times a b) (times a c)) (times a (plus b c)))

unfoldable pub combination_lemmas : List Row
combination_lemmas = eq_of_sub ∷ sub_self_of ∷ eq_of_combo ∷ add_nodes ∷ add_nodes_zero ∷ mul_unit ∷ mul_unit_join ∷ distrib_back ∷ []

-- these and the lemmas before them
abbrev pub through_combination_lemmas : List Row
through_combination_lemmas = through_written_term_lemmas ++ combination_lemmas
