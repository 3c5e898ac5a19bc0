-- Lemmas on equations and inequalities that are added, subtracted, multiplied and divided.
use Rattle.std.specs.Prelude.{List, [], ◌∷◌, ◌++◌, codes}
use Rattle.alg_law.specs.declared.classes.Class.TheVariants.{CommSemiring, Field, IsStrictOrderedRing, LinearOrder, Ring}
use Rattle.alg_law.specs.Rows.{Row}
use Rattle.alg_law.specs.LawWords.{a, b, c, d, at_most, equal, in_a, in_both, less, minus, number, over, plus, times, whenever}
use Rattle.alg_lemma.specs.CommutingLemmas.{through_commuting_lemmas}

-- where a = b: a ≤ b
abbrev pub le_of_eq : Row
le_of_eq = whenever (codes "le_of_eq") (in_a LinearOrder) (equal a b ∷ []) (at_most a b)

-- where a ≤ b and c < d: a + c < b + d
abbrev pub add_le_add_lt : Row
add_le_add_lt = whenever (codes "add_le_add_lt") (in_a IsStrictOrderedRing) (at_most a b ∷ less c d ∷ []) (less (plus a c) (plus b d))

-- where a ≤ b and c = d: a + c ≤ b + d
abbrev pub add_le_eq : Row
add_le_eq = whenever (codes "add_le_eq") (in_a IsStrictOrderedRing) (at_most a b ∷ equal c d ∷ []) (at_most (plus a c) (plus b d))

-- where a = b and c ≤ d: a + c ≤ b + d
abbrev pub add_eq_le : Row
add_eq_le = whenever (codes "add_eq_le") (in_a IsStrictOrderedRing) (equal a b ∷ at_most c d ∷ []) (at_most (plus a c) (plus b d))

-- where a < b and c = d: a + c < b + d
abbrev pub add_lt_eq : Row
add_lt_eq = whenever (codes "add_lt_eq") (in_a IsStrictOrderedRing) (less a b ∷ equal c d ∷ []) (less (plus a c) (plus b d))

-- where a = b and c < d: a + c < b + d
abbrev pub add_eq_lt : Row
add_eq_lt = whenever (codes "add_eq_lt") (in_a IsStrictOrderedRing) (equal a b ∷ less c d ∷ []) (less (plus a c) (plus b d))

-- where a ≤ b and c = d: a - c ≤ b - d
abbrev pub sub_le_eq : Row
sub_le_eq = whenever (codes "sub_le_eq") (in_both Ring IsStrictOrderedRing) (at_most a b ∷ equal c d ∷ []) (at_most (minus a c) (minus b d))

-- where a < b and c = d: a - c < b - d
abbrev pub sub_lt_eq : Row
sub_lt_eq = whenever (codes "sub_lt_eq") (in_both Ring IsStrictOrderedRing) (less a b ∷ equal c d ∷ []) (less (minus a c) (minus b d))

-- where a ≤ b and 0 ≤ c: c * a ≤ c * b
abbrev pub mul_le_mul_left : Row
mul_le_mul_left = whenever (codes "mul_le_mul_left") (in_both CommSemiring IsStrictOrderedRing) (at_most a b ∷ at_most (number 0) c ∷ []) (at_most (times c a) (times c b))

-- where a < b and 0 < c: c * a < c * b
abbrev pub mul_lt_mul_left : Row
mul_lt_mul_left = whenever (codes "mul_lt_mul_left") (in_both CommSemiring IsStrictOrderedRing) (less a b ∷ less (number 0) c ∷ []) (less (times c a) (times c b))

-- where a ≤ b and 0 ≤ c: a / c ≤ b / c
abbrev pub div_le_div_right : Row
div_le_div_right = whenever (codes "div_le_div_right") (in_both Field IsStrictOrderedRing) (at_most a b ∷ at_most (number 0) c ∷ []) (at_most (over a c) (over b c))

-- where a < b and 0 < c: a / c < b / c
abbrev pub div_lt_div_right : Row
div_lt_div_right = whenever (codes "div_lt_div_right") (in_both Field IsStrictOrderedRing) (less a b ∷ less (number 0) c ∷ []) (less (over a c) (over b c))

unfoldable pub joined_inequality_lemmas : List Row
joined_inequality_lemmas = le_of_eq ∷ add_le_add_lt ∷ add_le_eq ∷ add_eq_le ∷ add_lt_eq ∷ add_eq_lt ∷ sub_le_eq ∷ sub_lt_eq ∷ mul_le_mul_left ∷ mul_lt_mul_left ∷ div_le_div_right ∷ div_lt_div_right ∷ []

-- these and the lemmas before them
abbrev pub through_joined_inequality_lemmas : List Row
through_joined_inequality_lemmas = through_commuting_lemmas ++ joined_inequality_lemmas
