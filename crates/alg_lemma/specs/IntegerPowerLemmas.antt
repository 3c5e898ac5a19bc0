-- Lemmas on powers in a group whose exponents are integers.
use Rattle.std.specs.Prelude.{List, [], ◌∷◌, ◌++◌, codes}
use Rattle.alg_law.specs.declared.classes.Class.TheVariants.{Group}
use Rattle.alg_law.specs.Rows.{Row}
use Rattle.alg_law.specs.LawWords.{a, b, i, j, always, equal, in_a, integer_negative, integer_power, integer_times, inverse, number, times, whenever}
use Rattle.alg_lemma.specs.LemmaWords.{integer_equal}
use Rattle.alg_lemma.specs.ExponentLemmas.{through_exponent_lemmas}

-- 1 ^ i = 1
abbrev pub one_zpow : Row
one_zpow = always (codes "one_zpow") (in_a Group) (equal (integer_power (number 1) i) (number 1))

-- where -i = j: (a ^ i)⁻¹ = a ^ j
abbrev pub syllable_inv : Row
syllable_inv = whenever (codes "syllable_inv") (in_a Group) (integer_equal (integer_negative i) j ∷ []) (equal (inverse (integer_power a i)) (integer_power a j))

-- where a ^ (i * j) = b: (a ^ i) ^ j = b
abbrev pub syllable_zpow : Row
syllable_zpow = whenever (codes "syllable_zpow") (in_a Group) (equal (integer_power a (integer_times i j)) b ∷ []) (equal (integer_power (integer_power a i) j) b)

-- where a ^ i = b: (1 * a) ^ i = 1 * b
abbrev pub one_mul_zpow : Row
one_mul_zpow = whenever (codes "one_mul_zpow") (in_a Group) (equal (integer_power a i) b ∷ []) (equal (integer_power (times (number 1) a) i) (times (number 1) b))

unfoldable pub integer_power_lemmas : List Row
integer_power_lemmas = one_zpow ∷ syllable_inv ∷ syllable_zpow ∷ one_mul_zpow ∷ []

-- these and the lemmas before them
abbrev pub through_integer_power_lemmas : List Row
through_integer_power_lemmas = through_exponent_lemmas ++ integer_power_lemmas
