-- Lemmas on powers of fractions, and on their signs.
use Rattle.std.specs.Prelude.{List, [], ◌∷◌, ◌++◌, codes}
use Rattle.alg_law.specs.declared.classes.Class.TheVariants.{AddGroup, Field}
use Rattle.alg_law.specs.Rows.{Row}
use Rattle.alg_law.specs.LawWords.{a, b, c, d, n, i, always, equal, in_a, integer_multiple, integer_negative, integer_power, inverse, negative, number, over, power, times, unequal, whenever}
use Rattle.alg_lemma.specs.FractionProductLemmas.{through_fraction_product_lemmas}

-- where a ^ n = c, b ^ n = d and b ≠ 0: (a / b) ^ n = c / d
abbrev pub div_pow : Row
div_pow = whenever (codes "div_pow") (in_a Field) (equal (power a n) c ∷ equal (power b n) d ∷ unequal b (number 0) ∷ []) (equal (power (over a b) n) (over c d))

-- where b⁻¹ = d and a * d = c: a / b = c
abbrev pub div_of_inv : Row
div_of_inv = whenever (codes "div_of_inv") (in_a Field) (equal (inverse b) d ∷ equal (times a d) c ∷ []) (equal (over a b) c)

-- -(a / b) = -a / b
abbrev pub neg_div : Row
neg_div = always (codes "neg_div") (in_a Field) (equal (negative (over a b)) (over (negative a) b))

-- where a ^ i = b and b⁻¹ = c: a ^ (-i) = c
abbrev pub zpow_neg_lit0 : Row
zpow_neg_lit0 = whenever (codes "zpow_neg_lit0") (in_a Field) (equal (integer_power a i) b ∷ equal (inverse b) c ∷ []) (equal (integer_power a (integer_negative i)) c)

-- where i • a = b and -b = c: (-i) • a = c
abbrev pub zsmul_neg_lit : Row
zsmul_neg_lit = whenever (codes "zsmul_neg_lit") (in_a AddGroup) (equal (integer_multiple i a) b ∷ equal (negative b) c ∷ []) (equal (integer_multiple (integer_negative i) a) c)

unfoldable pub fraction_power_lemmas : List Row
fraction_power_lemmas = div_pow ∷ div_of_inv ∷ neg_div ∷ zpow_neg_lit0 ∷ zsmul_neg_lit ∷ []

-- these and the lemmas before them
abbrev pub through_fraction_power_lemmas : List Row
through_fraction_power_lemmas = through_fraction_product_lemmas ++ fraction_power_lemmas
