-- Lemmas on what is unequal.
use Rattle.std.specs.Prelude.{List, [], ◌∷◌, ◌++◌, codes}
use Rattle.alg_law.specs.declared.classes.Class.TheVariants.{AddCommGroup, Field, IsStrictOrderedRing}
use Rattle.alg_law.specs.Rows.{Row}
use Rattle.alg_law.specs.LawWords.{a, b, c, equal, in_a, less, negative, number, plus, times, unequal, whenever}
use Rattle.alg_lemma.specs.FractionPowerLemmas.{through_fraction_power_lemmas}

-- where a ≠ b: -a ≠ -b
abbrev pub neg_ne_neg : Row
neg_ne_neg = whenever (codes "neg_ne_neg") (in_a AddCommGroup) (unequal a b ∷ []) (unequal (negative a) (negative b))

-- where a + b = c and c ≠ 0: -a ≠ b
abbrev pub neg_ne_pos : Row
neg_ne_pos = whenever (codes "neg_ne_pos") (in_a AddCommGroup) (equal (plus a b) c ∷ unequal c (number 0) ∷ []) (unequal (negative a) b)

-- where a + b = c and c ≠ 0: b ≠ -a
abbrev pub pos_ne_neg : Row
pos_ne_neg = whenever (codes "pos_ne_neg") (in_a AddCommGroup) (equal (plus a b) c ∷ unequal c (number 0) ∷ []) (unequal b (negative a))

-- where a * c ≠ b * c and c ≠ 0: a ≠ b
abbrev pub ne_of_mul : Row
ne_of_mul = whenever (codes "ne_of_mul") (in_a Field) (unequal (times a c) (times b c) ∷ unequal c (number 0) ∷ []) (unequal a b)

-- where 0 < a: a ≠ 0
abbrev pub ne_zero_of_pos : Row
ne_zero_of_pos = whenever (codes "ne_zero_of_pos") (in_a IsStrictOrderedRing) (less (number 0) a ∷ []) (unequal a (number 0))

unfoldable pub inequation_lemmas : List Row
inequation_lemmas = neg_ne_neg ∷ neg_ne_pos ∷ pos_ne_neg ∷ ne_of_mul ∷ ne_zero_of_pos ∷ []

-- these and the lemmas before them
abbrev pub through_inequation_lemmas : List Row
through_inequation_lemmas = through_fraction_power_lemmas ++ inequation_lemmas
