-- Lemmas on products of powers in a group.
use Rattle.std.specs.Prelude.{List, [], ◌∷◌, ◌++◌, codes}
use Rattle.alg_law.specs.declared.classes.Class.TheVariants.{Group, Monoid}
use Rattle.alg_law.specs.Rows.{Row}
use Rattle.alg_law.specs.LawWords.{a, b, c, d, n, i, j, always, equal, in_a, integer_negative, integer_plus, integer_power, integer_times, inverse, number, over, power, times, whenever}
use Rattle.alg_lemma.specs.MultipleSumLemmas.{through_multiple_sum_lemmas}

-- where b = a: a = 1 * b
abbrev pub atom_word : Row
atom_word = whenever (codes "atom_word") (in_a Monoid) (equal b a ∷ []) (equal a (times (number 1) b))

-- where b * c = 1: a * b * c = a
abbrev pub word_cancel : Row
word_cancel = whenever (codes "word_cancel") (in_a Monoid) (equal (times b c) (number 1) ∷ []) (equal (times (times a b) c) a)

-- where c⁻¹ = d: a * (b * c)⁻¹ = a * d * b⁻¹
abbrev pub word_inv : Row
word_inv = whenever (codes "word_inv") (in_a Group) (equal (inverse c) d ∷ []) (equal (times a (inverse (times b c))) (times (times a d) (inverse b)))

-- 1⁻¹ = 1
abbrev pub one_inv : Row
one_inv = always (codes "one_inv") (in_a Group) (equal (inverse (number 1)) (number 1))

-- a * 1⁻¹ = a
abbrev pub word_inv_end : Row
word_inv_end = always (codes "word_inv_end") (in_a Group) (equal (times a (inverse (number 1))) a)

-- where 1 * a = b: a = b
abbrev pub inv_of_word : Row
inv_of_word = whenever (codes "inv_of_word") (in_a Monoid) (equal (times (number 1) a) b ∷ []) (equal a b)

-- where a * b⁻¹ = c: a / b = c
abbrev pub div_of_word : Row
div_of_word = whenever (codes "div_of_word") (in_a Group) (equal (times a (inverse b)) c ∷ []) (equal (over a b) c)

-- where a ^ (i + j) = b: a ^ i * a ^ j = b
abbrev pub syllable_mul : Row
syllable_mul = whenever (codes "syllable_mul") (in_a Group) (equal (integer_power a (integer_plus i j)) b ∷ []) (equal (times (integer_power a i) (integer_power a j)) b)

-- where a ^ (i * j) = b and (a ^ i) ^ j = (a ^ i) ^ n: (a ^ i) ^ n = b
abbrev pub syllable_pow : Row
syllable_pow = whenever (codes "syllable_pow") (in_a Group) (equal (integer_power a (integer_times i j)) b ∷ equal (integer_power (integer_power a i) j) (power (integer_power a i) n) ∷ []) (equal (power (integer_power a i) n) b)

-- (a ^ (-i))⁻¹ = a ^ i
abbrev pub syllable_inv_neg : Row
syllable_inv_neg = always (codes "syllable_inv_neg") (in_a Group) (equal (inverse (integer_power a (integer_negative i))) (integer_power a i))

-- where a ^ n = b: (1 * a) ^ n = 1 * b
abbrev pub one_mul_pow : Row
one_mul_pow = whenever (codes "one_mul_pow") (in_a Monoid) (equal (power a n) b ∷ []) (equal (power (times (number 1) a) n) (times (number 1) b))

-- where a ^ i = b and b⁻¹ = c: a ^ (-i) = c
abbrev pub zpow_neg_lit : Row
zpow_neg_lit = whenever (codes "zpow_neg_lit") (in_a Group) (equal (integer_power a i) b ∷ equal (inverse b) c ∷ []) (equal (integer_power a (integer_negative i)) c)

-- where a = b: 1 * a = b
abbrev pub word_first : Row
word_first = whenever (codes "word_first") (in_a Monoid) (equal a b ∷ []) (equal (times (number 1) a) b)

unfoldable pub word_lemmas : List Row
word_lemmas = atom_word ∷ word_cancel ∷ word_inv ∷ one_inv ∷ word_inv_end ∷ inv_of_word ∷ div_of_word ∷ syllable_mul ∷ syllable_pow ∷ syllable_inv_neg ∷ one_mul_pow ∷ zpow_neg_lit ∷ word_first ∷ []

-- these and the lemmas before them
abbrev pub through_word_lemmas : List Row
through_word_lemmas = through_multiple_sum_lemmas ++ word_lemmas
