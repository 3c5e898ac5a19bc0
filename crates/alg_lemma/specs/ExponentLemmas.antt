-- Lemmas on powers whose exponents are sums and products.
use Rattle.std.specs.Prelude.{List, [], ◌∷◌, ◌++◌, codes}
use Rattle.alg_law.specs.declared.classes.Class.TheVariants.{CommSemiring, Monoid, Semiring}
use Rattle.alg_law.specs.Rows.{Row}
use Rattle.alg_law.specs.LawWords.{a, b, c, d, m, n, equal, in_a, natural, natural_plus, natural_times, number, plus, power, times, whenever}
use Rattle.alg_lemma.specs.RestLemmas.{through_rest_lemmas}

-- where a ^ m = b, a ^ n = c and b * c = d: a ^ (m + n) = d
abbrev pub exp_next : Row
exp_next = whenever (codes "exp_next") (in_a Monoid) (equal (power a m) b ∷ equal (power a n) c ∷ equal (times b c) d ∷ []) (equal (power a (natural_plus m n)) d)

-- where a ^ n = b: a ^ (0 + n) = b
abbrev pub exp_first : Row
exp_first = whenever (codes "exp_first") (in_a Monoid) (equal (power a n) b ∷ []) (equal (power a (natural_plus (natural 0) n)) b)

-- where a ^ m = b and b ^ n = c: a ^ (m * n) = c
abbrev pub exp_term : Row
exp_term = whenever (codes "exp_term") (in_a Monoid) (equal (power a m) b ∷ equal (power b n) c ∷ []) (equal (power a (natural_times m n)) c)

-- where a ^ n = b: a ^ (1 * n) = b
abbrev pub exp_const : Row
exp_const = whenever (codes "exp_const") (in_a Monoid) (equal (power a n) b ∷ []) (equal (power a (natural_times (natural 1) n)) b)

-- where a ^ m = b: a ^ (m * 1) = b
abbrev pub exp_one : Row
exp_one = whenever (codes "exp_one") (in_a Monoid) (equal (power a m) b ∷ []) (equal (power a (natural_times m (natural 1))) b)

-- where a ^ n = 0: a ^ (m + n) = 0
abbrev pub exp_zero : Row
exp_zero = whenever (codes "exp_zero") (in_a Semiring) (equal (power a n) (number 0) ∷ []) (equal (power a (natural_plus m n)) (number 0))

-- where a ^ m = b: (a ^ n) ^ m = b ^ n
abbrev pub exp_swap : Row
exp_swap = whenever (codes "exp_swap") (in_a Monoid) (equal (power a m) b ∷ []) (equal (power (power a n) m) (power b n))

-- where a ^ n = c and b ^ n = d: (a * b + 0) ^ n = c * (1 * d + 0)
abbrev pub pow_node_mul : Row
pow_node_mul = whenever (codes "pow_node_mul") (in_a CommSemiring) (equal (power a n) c ∷ equal (power b n) d ∷ []) (equal (power (plus (times a b) (number 0)) n) (times c (plus (times (number 1) d) (number 0))))

unfoldable pub exponent_lemmas : List Row
exponent_lemmas = exp_next ∷ exp_first ∷ exp_term ∷ exp_const ∷ exp_one ∷ exp_zero ∷ exp_swap ∷ pow_node_mul ∷ []

-- these and the lemmas before them
abbrev pub through_exponent_lemmas : List Row
through_exponent_lemmas = through_rest_lemmas ++ exponent_lemmas
