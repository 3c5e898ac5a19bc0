-- Lemmas on sorted sums that are merged, and on monomials that are put together.
use Rattle.std.specs.Prelude.{List, [], ◌∷◌, ◌++◌, codes}
use Rattle.alg_law.specs.declared.classes.Class.TheVariants.{AddCommMonoid, AddMonoid, CommMonoid, CommSemiring, Monoid, Semigroup, Semiring}
use Rattle.alg_law.specs.Rows.{Row}
use Rattle.alg_law.specs.LawWords.{a, b, c, d, m, always, equal, in_a, natural, number, plus, power, times, whenever}
use Rattle.alg_lemma.specs.NodeProductLemmas.{through_node_product_lemmas}

-- a * b = 0 + b * a
abbrev pub leaf_mono : Row
leaf_mono = always (codes "leaf_mono") (in_a CommSemiring) (equal (times a b) (plus (number 0) (times b a)))

-- where b * c = d: a * b * c = a * d
abbrev pub node_mono : Row
node_mono = whenever (codes "node_mono") (in_a Semigroup) (equal (times b c) d ∷ []) (equal (times (times a b) c) (times a d))

-- where b * c = d: (a * b + 0) * c = a * d
abbrev pub node_mono_zero : Row
node_mono_zero = whenever (codes "node_mono_zero") (in_a Semiring) (equal (times b c) d ∷ []) (equal (times (plus (times a b) (number 0)) c) (times a d))

-- where a + c = d: a + b + c = d + b
abbrev pub merge_left : Row
merge_left = whenever (codes "merge_left") (in_a AddCommMonoid) (equal (plus a c) d ∷ []) (equal (plus (plus a b) c) (plus d b))

-- where a + b = d: a + (b + c) = d + c
abbrev pub merge_right : Row
merge_right = whenever (codes "merge_right") (in_a AddMonoid) (equal (plus a b) d ∷ []) (equal (plus a (plus b c)) (plus d c))

-- a ^ 1 * 1 = a
abbrev pub mono_first : Row
mono_first = always (codes "mono_first") (in_a Monoid) (equal (times (power a (natural 1)) (number 1)) a)

-- a ^ 1 * b = b * a
abbrev pub mono_next : Row
mono_next = always (codes "mono_next") (in_a CommMonoid) (equal (times (power a (natural 1)) b) (times b a))

-- where b ^ m * b ^ 1 = c: b ^ m * b = c
abbrev pub mono_one_more : Row
mono_one_more = whenever (codes "mono_one_more") (in_a CommMonoid) (equal (times (power b m) (power b (natural 1))) c ∷ []) (equal (times (power b m) b) c)

-- where b * d = c: b * (a * d) = a * c
abbrev pub mono_again : Row
mono_again = whenever (codes "mono_again") (in_a CommMonoid) (equal (times b d) c ∷ []) (equal (times b (times a d)) (times a c))

unfoldable pub merging_lemmas : List Row
merging_lemmas = leaf_mono ∷ node_mono ∷ node_mono_zero ∷ merge_left ∷ merge_right ∷ mono_first ∷ mono_next ∷ mono_one_more ∷ mono_again ∷ []

-- these and the lemmas before them
abbrev pub through_merging_lemmas : List Row
through_merging_lemmas = through_node_product_lemmas ++ merging_lemmas
