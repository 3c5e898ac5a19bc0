-- Lemmas on the order of products and negations.
use Rattle.std.specs.Prelude.{List, [], ◌∷◌, ◌++◌, codes}
use Rattle.alg_law.specs.declared.classes.Class.TheVariants.{Field, IsStrictOrderedRing, Ring}
use Rattle.alg_law.specs.Rows.{Row}
use Rattle.alg_law.specs.LawWords.{a, b, c, absolute, at_most, equal, in_both, less, negative, number, over, times, whenever}
use Rattle.alg_lemma.specs.InequationLemmas.{through_inequation_lemmas}

-- where a * c < b * c and 0 < c: a < b
abbrev pub lt_of_mul : Row
lt_of_mul = whenever (codes "lt_of_mul") (in_both Field IsStrictOrderedRing) (less (times a c) (times b c) ∷ less (number 0) c ∷ []) (less a b)

-- where a * c ≤ b * c and 0 < c: a ≤ b
abbrev pub le_of_mul : Row
le_of_mul = whenever (codes "le_of_mul") (in_both Field IsStrictOrderedRing) (at_most (times a c) (times b c) ∷ less (number 0) c ∷ []) (at_most a b)

-- where b < a: -a < -b
abbrev pub neg_lt_neg : Row
neg_lt_neg = whenever (codes "neg_lt_neg") (in_both Ring IsStrictOrderedRing) (less b a ∷ []) (less (negative a) (negative b))

-- where b ≤ a: -a ≤ -b
abbrev pub neg_le_neg : Row
neg_le_neg = whenever (codes "neg_le_neg") (in_both Ring IsStrictOrderedRing) (at_most b a ∷ []) (at_most (negative a) (negative b))

-- where 0 < a: -a < 0
abbrev pub neg_lt_zero : Row
neg_lt_zero = whenever (codes "neg_lt_zero") (in_both Ring IsStrictOrderedRing) (less (number 0) a ∷ []) (less (negative a) (number 0))

-- where 0 < a and 0 ≤ b: -a < b
abbrev pub neg_lt_nonneg : Row
neg_lt_nonneg = whenever (codes "neg_lt_nonneg") (in_both Ring IsStrictOrderedRing) (less (number 0) a ∷ at_most (number 0) b ∷ []) (less (negative a) b)

-- where 0 < a and 0 ≤ b: -a ≤ b
abbrev pub neg_le_nonneg : Row
neg_le_nonneg = whenever (codes "neg_le_nonneg") (in_both Ring IsStrictOrderedRing) (less (number 0) a ∷ at_most (number 0) b ∷ []) (at_most (negative a) b)

-- where 0 ≤ a: abs (-a) = a
abbrev pub abs_neg_lit : Row
abs_neg_lit = whenever (codes "abs_neg_lit") (in_both Ring IsStrictOrderedRing) (at_most (number 0) a ∷ []) (equal (absolute (negative a)) a)

-- where 0 < a and 0 < b: 0 < a / b
abbrev pub div_pos : Row
div_pos = whenever (codes "div_pos") (in_both Field IsStrictOrderedRing) (less (number 0) a ∷ less (number 0) b ∷ []) (less (number 0) (over a b))

unfoldable pub comparison_lemmas : List Row
comparison_lemmas = lt_of_mul ∷ le_of_mul ∷ neg_lt_neg ∷ neg_le_neg ∷ neg_lt_zero ∷ neg_lt_nonneg ∷ neg_le_nonneg ∷ abs_neg_lit ∷ div_pos ∷ []

-- these and the lemmas before them
abbrev pub through_comparison_lemmas : List Row
through_comparison_lemmas = through_inequation_lemmas ++ comparison_lemmas
