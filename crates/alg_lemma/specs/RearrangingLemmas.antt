-- Lemmas that put sums and products in another order, and on products of powers.
use Rattle.std.specs.Prelude.{List, [], ◌∷◌, ◌++◌, codes}
use Rattle.alg_law.specs.declared.classes.Class.TheVariants.{AddCommGroup, AddCommMonoid, AddGroup, CommMonoid, Monoid}
use Rattle.alg_law.specs.Rows.{Row}
use Rattle.alg_law.specs.LawWords.{a, b, c, d, m, n, always, equal, in_a, natural_plus, natural_times, negative, plus, power, times, whenever}
use Rattle.alg_lemma.specs.FirstLemmas.{through_first_lemmas}

-- a + b + c = a + c + b
abbrev pub add_right_comm : Row
add_right_comm = always (codes "add_right_comm") (in_a AddCommMonoid) (equal (plus (plus a b) c) (plus (plus a c) b))

-- a + b + (c + d) = a + c + (b + d)
abbrev pub add_add_add_comm : Row
add_add_add_comm = always (codes "add_add_add_comm") (in_a AddCommMonoid) (equal (plus (plus a b) (plus c d)) (plus (plus a c) (plus b d)))

-- a * b * c = a * c * b
abbrev pub mul_right_comm : Row
mul_right_comm = always (codes "mul_right_comm") (in_a CommMonoid) (equal (times (times a b) c) (times (times a c) b))

-- a * b * (c * d) = a * c * (b * d)
abbrev pub mul_mul_mul_comm : Row
mul_mul_mul_comm = always (codes "mul_mul_mul_comm") (in_a CommMonoid) (equal (times (times a b) (times c d)) (times (times a c) (times b d)))

-- a + (-a + b) = b
abbrev pub add_neg_cancel_left : Row
add_neg_cancel_left = always (codes "add_neg_cancel_left") (in_a AddGroup) (equal (plus a (plus (negative a) b)) b)

-- a + (b + -a) = b
abbrev pub add_add_neg_cancel : Row
add_add_neg_cancel = always (codes "add_add_neg_cancel") (in_a AddCommGroup) (equal (plus a (plus b (negative a))) b)

-- where a ^ (m + n) = b: a ^ m * a ^ n = b
abbrev pub pow_mul_of : Row
pow_mul_of = whenever (codes "pow_mul_of") (in_a Monoid) (equal (power a (natural_plus m n)) b ∷ []) (equal (times (power a m) (power a n)) b)

-- where a ^ (m * n) = b: (a ^ m) ^ n = b
abbrev pub pow_pow_of : Row
pow_pow_of = whenever (codes "pow_pow_of") (in_a Monoid) (equal (power a (natural_times m n)) b ∷ []) (equal (power (power a m) n) b)

unfoldable pub rearranging_lemmas : List Row
rearranging_lemmas = add_right_comm ∷ add_add_add_comm ∷ mul_right_comm ∷ mul_mul_mul_comm ∷ add_neg_cancel_left ∷ add_add_neg_cancel ∷ pow_mul_of ∷ pow_pow_of ∷ []

-- these and the lemmas before them
abbrev pub through_rearranging_lemmas : List Row
through_rearranging_lemmas = through_first_lemmas ++ rearranging_lemmas
