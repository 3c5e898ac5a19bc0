-- Lemmas that lead to an inequality from another one and what is left over.
use Rattle.std.specs.Prelude.{List, [], ◌∷◌, ◌++◌, codes}
use Rattle.alg_law.specs.declared.classes.Class.TheVariants.{AddGroup, IsStrictOrderedRing, Ring}
use Rattle.alg_law.specs.Rows.{Row}
use Rattle.alg_law.specs.LawWords.{a, b, c, d, always, at_most, equal, in_a, in_both, less, minus, number, plus, whenever}
use Rattle.alg_lemma.specs.JoinedInequalityLemmas.{through_joined_inequality_lemmas}

-- a - b + b = a
abbrev pub sub_add_cancel : Row
sub_add_cancel = always (codes "sub_add_cancel") (in_a AddGroup) (equal (plus (minus a b) b) a)

-- where a - b ≤ 0: a ≤ b
abbrev pub le_of_sub : Row
le_of_sub = whenever (codes "le_of_sub") (in_both Ring IsStrictOrderedRing) (at_most (minus a b) (number 0) ∷ []) (at_most a b)

-- where a - b < 0: a < b
abbrev pub lt_of_sub : Row
lt_of_sub = whenever (codes "lt_of_sub") (in_both Ring IsStrictOrderedRing) (less (minus a b) (number 0) ∷ []) (less a b)

-- where a - b - (c - d) ≤ 0 and c ≤ d: a ≤ b
abbrev pub le_of_combo : Row
le_of_combo = whenever (codes "le_of_combo") (in_both Ring IsStrictOrderedRing) (at_most (minus (minus a b) (minus c d)) (number 0) ∷ at_most c d ∷ []) (at_most a b)

-- where a - b - (c - d) < 0 and c ≤ d: a < b
abbrev pub lt_of_combo : Row
lt_of_combo = whenever (codes "lt_of_combo") (in_both Ring IsStrictOrderedRing) (less (minus (minus a b) (minus c d)) (number 0) ∷ at_most c d ∷ []) (less a b)

-- where a - b - (c - d) ≤ 0 and c < d: a < b
abbrev pub lt_of_combo_lt : Row
lt_of_combo_lt = whenever (codes "lt_of_combo_lt") (in_both Ring IsStrictOrderedRing) (at_most (minus (minus a b) (minus c d)) (number 0) ∷ less c d ∷ []) (less a b)

unfoldable pub rest_lemmas : List Row
rest_lemmas = sub_add_cancel ∷ le_of_sub ∷ lt_of_sub ∷ le_of_combo ∷ lt_of_combo ∷ lt_of_combo_lt ∷ []

-- these and the lemmas before them
abbrev pub through_rest_lemmas : List Row
through_rest_lemmas = through_joined_inequality_lemmas ++ rest_lemmas
