-- Lemmas on products, powers and negations of products by powers with their rests.
use Rattle.std.specs.Prelude.{List, [], ◌∷◌, ◌++◌, codes}
use Rattle.alg_law.specs.declared.classes.Class.TheVariants.{AddCommGroup, AddGroup, CommMonoid, CommSemigroup, CommSemiring, Ring, Semigroup, Semiring}
use Rattle.alg_law.specs.Rows.{Row}
use Rattle.alg_law.specs.LawWords.{a, b, c, d, n, always, equal, in_a, minus, natural, negative, number, plus, power, times, whenever}
use Rattle.alg_lemma.specs.NodePairLemmas.{through_node_pair_lemmas}

-- where b * a = c: a * b = c
abbrev pub mul_swap : Row
mul_swap = whenever (codes "mul_swap") (in_a CommSemigroup) (equal (times b a) c ∷ []) (equal (times a b) c)

-- where a * b = c: a * d * b = c * d
abbrev pub mul_node : Row
mul_node = whenever (codes "mul_node") (in_a CommMonoid) (equal (times a b) c ∷ []) (equal (times (times a d) b) (times c d))

-- where a * b = c: (a * d + 0) * b = c * d + 0
abbrev pub mul_node_zero : Row
mul_node_zero = whenever (codes "mul_node_zero") (in_a CommSemiring) (equal (times a b) c ∷ []) (equal (times (plus (times a d) (number 0)) b) (plus (times c d) (number 0)))

-- where a * b = c: a * (b * d) = c * d
abbrev pub mul_same : Row
mul_same = whenever (codes "mul_same") (in_a Semigroup) (equal (times a b) c ∷ []) (equal (times a (times b d)) (times c d))

-- where a * b = c: a * (b * d + 0) = c * d + 0
abbrev pub mul_same_zero : Row
mul_same_zero = whenever (codes "mul_same_zero") (in_a Semiring) (equal (times a b) c ∷ []) (equal (times a (plus (times b d) (number 0))) (plus (times c d) (number 0)))

-- a = 1 * a ^ 1 + 0
abbrev pub atom_node : Row
atom_node = always (codes "atom_node") (in_a Semiring) (equal a (plus (times (number 1) (power a (natural 1))) (number 0)))

-- where a ^ n = c and b ^ n = d: (a * b + 0) ^ n = c * d + 0
abbrev pub pow_node : Row
pow_node = whenever (codes "pow_node") (in_a CommSemiring) (equal (power a n) c ∷ equal (power b n) d ∷ []) (equal (power (plus (times a b) (number 0)) n) (plus (times c d) (number 0)))

-- where -b = c and a + c = d: a - b = d
abbrev pub sub_of_neg : Row
sub_of_neg = whenever (codes "sub_of_neg") (in_a AddGroup) (equal (negative b) c ∷ equal (plus a c) d ∷ []) (equal (minus a b) d)

-- where -a = c and -b = d: -(a + b) = c + d
abbrev pub neg_sum : Row
neg_sum = whenever (codes "neg_sum") (in_a AddCommGroup) (equal (negative a) c ∷ equal (negative b) d ∷ []) (equal (negative (plus a b)) (plus c d))

-- where -a = b: -(a * c) = b * c
abbrev pub neg_node : Row
neg_node = whenever (codes "neg_node") (in_a Ring) (equal (negative a) b ∷ []) (equal (negative (times a c)) (times b c))

-- where -a = b: -(a * c + 0) = b * c + 0
abbrev pub neg_node_zero : Row
neg_node_zero = whenever (codes "neg_node_zero") (in_a Ring) (equal (negative a) b ∷ []) (equal (negative (plus (times a c) (number 0))) (plus (times b c) (number 0)))

unfoldable pub node_product_lemmas : List Row
node_product_lemmas = mul_swap ∷ mul_node ∷ mul_node_zero ∷ mul_same ∷ mul_same_zero ∷ atom_node ∷ pow_node ∷ sub_of_neg ∷ neg_sum ∷ neg_node ∷ neg_node_zero ∷ []

-- these and the lemmas before them
abbrev pub through_node_product_lemmas : List Row
through_node_product_lemmas = through_node_pair_lemmas ++ node_product_lemmas
