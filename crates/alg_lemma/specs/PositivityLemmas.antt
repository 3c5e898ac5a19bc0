-- Lemmas on what is positive, or at least 0.
use Rattle.std.specs.Prelude.{List, [], ◌∷◌, ◌++◌, codes}
use Rattle.alg_law.specs.declared.classes.Class.TheVariants.{Field, IsStrictOrderedRing, Ring}
use Rattle.alg_law.specs.Rows.{Row}
use Rattle.alg_law.specs.LawWords.{a, b, m, n, always, at_most, in_a, in_both, less, natural, natural_plus, number, over, plus, power, unequal, whenever}
use Rattle.alg_lemma.specs.LemmaWords.{natural_equal}
use Rattle.alg_lemma.specs.WordLemmas.{through_word_lemmas}

-- where 0 ≤ a and a ≠ 0: 0 < a
abbrev pub pos_of_nonneg_ne : Row
pos_of_nonneg_ne = whenever (codes "pos_of_nonneg_ne") (in_a IsStrictOrderedRing) (at_most (number 0) a ∷ unequal a (number 0) ∷ []) (less (number 0) a)

-- where 0 < a and 0 ≤ b: 0 < a + b
abbrev pub add_pos_nonneg : Row
add_pos_nonneg = whenever (codes "add_pos_nonneg") (in_a IsStrictOrderedRing) (less (number 0) a ∷ at_most (number 0) b ∷ []) (less (number 0) (plus a b))

-- where 0 ≤ a and 0 < b: 0 < a + b
abbrev pub add_nonneg_pos : Row
add_nonneg_pos = whenever (codes "add_nonneg_pos") (in_a IsStrictOrderedRing) (at_most (number 0) a ∷ less (number 0) b ∷ []) (less (number 0) (plus a b))

-- where 0 ≤ a and 0 ≤ b: 0 ≤ a + b
abbrev pub add_nonneg : Row
add_nonneg = whenever (codes "add_nonneg") (in_a IsStrictOrderedRing) (at_most (number 0) a ∷ at_most (number 0) b ∷ []) (at_most (number 0) (plus a b))

-- 0 < a ^ 0
abbrev pub pow_zero_pos : Row
pow_zero_pos = always (codes "pow_zero_pos") (in_a IsStrictOrderedRing) (less (number 0) (power a (natural 0)))

-- where m + m = n: 0 ≤ a ^ n
abbrev pub even_pow_nonneg : Row
even_pow_nonneg = whenever (codes "even_pow_nonneg") (in_both Ring IsStrictOrderedRing) (natural_equal (natural_plus m m) n ∷ []) (at_most (number 0) (power a n))

-- where m + m = n and a ≠ 0: 0 < a ^ n
abbrev pub even_pow_pos : Row
even_pow_pos = whenever (codes "even_pow_pos") (in_both Ring IsStrictOrderedRing) (natural_equal (natural_plus m m) n ∷ unequal a (number 0) ∷ []) (less (number 0) (power a n))

-- where 0 ≤ a and 0 ≤ b: 0 ≤ a / b
abbrev pub div_nonneg : Row
div_nonneg = whenever (codes "div_nonneg") (in_both Field IsStrictOrderedRing) (at_most (number 0) a ∷ at_most (number 0) b ∷ []) (at_most (number 0) (over a b))

unfoldable pub positivity_lemmas : List Row
positivity_lemmas = pos_of_nonneg_ne ∷ add_pos_nonneg ∷ add_nonneg_pos ∷ add_nonneg ∷ pow_zero_pos ∷ even_pow_nonneg ∷ even_pow_pos ∷ div_nonneg ∷ []

-- these and the lemmas before them
abbrev pub through_positivity_lemmas : List Row
through_positivity_lemmas = through_word_lemmas ++ positivity_lemmas
