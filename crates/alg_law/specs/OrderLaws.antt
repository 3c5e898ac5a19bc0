-- Laws of linear orders, and of the lesser and the greater of two.
use Rattle.std.specs.Prelude.{List, [], ◌∷◌, codes}
use Rattle.alg_law.specs.declared.classes.Class.TheVariants.{LinearOrder}
use Rattle.alg_law.specs.Rows.{Row}
use Rattle.alg_law.specs.LawWords.{a, b, c, lesser, greater, equal, unequal, less, at_most, in_a, always, whenever}

-- a ≤ a
abbrev pub le_refl : Row
le_refl = always (codes "le_refl") (in_a LinearOrder) (at_most a a)

-- where a < b: a ≤ b
abbrev pub le_of_lt : Row
le_of_lt = whenever (codes "le_of_lt") (in_a LinearOrder) (less a b ∷ []) (at_most a b)

-- where a < b: a ≠ b
abbrev pub ne_of_lt : Row
ne_of_lt = whenever (codes "ne_of_lt") (in_a LinearOrder) (less a b ∷ []) (unequal a b)

-- where a ≤ b and a ≠ b: a < b
abbrev pub lt_of_le_of_ne : Row
lt_of_le_of_ne = whenever (codes "lt_of_le_of_ne") (in_a LinearOrder) (at_most a b ∷ unequal a b ∷ []) (less a b)

-- where a ≤ b and b ≤ c: a ≤ c
abbrev pub le_trans : Row
le_trans = whenever (codes "le_trans") (in_a LinearOrder) (at_most a b ∷ at_most b c ∷ []) (at_most a c)

-- where a < b and b < c: a < c
abbrev pub lt_trans : Row
lt_trans = whenever (codes "lt_trans") (in_a LinearOrder) (less a b ∷ less b c ∷ []) (less a c)

-- where a < b and b ≤ c: a < c
abbrev pub lt_of_lt_of_le : Row
lt_of_lt_of_le = whenever (codes "lt_of_lt_of_le") (in_a LinearOrder) (less a b ∷ at_most b c ∷ []) (less a c)

-- where a ≤ b and b < c: a < c
abbrev pub lt_of_le_of_lt : Row
lt_of_le_of_lt = whenever (codes "lt_of_le_of_lt") (in_a LinearOrder) (at_most a b ∷ less b c ∷ []) (less a c)

unfoldable pub order_laws : List Row
order_laws = le_refl ∷ le_of_lt ∷ ne_of_lt ∷ lt_of_le_of_ne ∷ le_trans ∷ lt_trans ∷ lt_of_lt_of_le ∷ lt_of_le_of_lt ∷ []

-- where a ≤ b: min a b = a
abbrev pub min_eq_left : Row
min_eq_left = whenever (codes "min_eq_left") (in_a LinearOrder) (at_most a b ∷ []) (equal (lesser a b) a)

-- where b ≤ a: min a b = b
abbrev pub min_eq_right : Row
min_eq_right = whenever (codes "min_eq_right") (in_a LinearOrder) (at_most b a ∷ []) (equal (lesser a b) b)

-- where b ≤ a: max a b = a
abbrev pub max_eq_left : Row
max_eq_left = whenever (codes "max_eq_left") (in_a LinearOrder) (at_most b a ∷ []) (equal (greater a b) a)

-- where a ≤ b: max a b = b
abbrev pub max_eq_right : Row
max_eq_right = whenever (codes "max_eq_right") (in_a LinearOrder) (at_most a b ∷ []) (equal (greater a b) b)

-- where c < a and c < b: c < min a b
abbrev pub lt_min : Row
lt_min = whenever (codes "lt_min") (in_a LinearOrder) (less c a ∷ less c b ∷ []) (less c (lesser a b))

-- where c ≤ a and c ≤ b: c ≤ min a b
abbrev pub le_min : Row
le_min = whenever (codes "le_min") (in_a LinearOrder) (at_most c a ∷ at_most c b ∷ []) (at_most c (lesser a b))

-- where a ≠ c and b ≠ c: min a b ≠ c
abbrev pub min_ne : Row
min_ne = whenever (codes "min_ne") (in_a LinearOrder) (unequal a c ∷ unequal b c ∷ []) (unequal (lesser a b) c)

-- where c < a: c < max a b
abbrev pub lt_max_left : Row
lt_max_left = whenever (codes "lt_max_left") (in_a LinearOrder) (less c a ∷ []) (less c (greater a b))

-- where c < b: c < max a b
abbrev pub lt_max_right : Row
lt_max_right = whenever (codes "lt_max_right") (in_a LinearOrder) (less c b ∷ []) (less c (greater a b))

-- where c ≤ a: c ≤ max a b
abbrev pub le_max_left : Row
le_max_left = whenever (codes "le_max_left") (in_a LinearOrder) (at_most c a ∷ []) (at_most c (greater a b))

-- where c ≤ b: c ≤ max a b
abbrev pub le_max_right : Row
le_max_right = whenever (codes "le_max_right") (in_a LinearOrder) (at_most c b ∷ []) (at_most c (greater a b))

-- where a ≠ c and b ≠ c: max a b ≠ c
abbrev pub max_ne : Row
max_ne = whenever (codes "max_ne") (in_a LinearOrder) (unequal a c ∷ unequal b c ∷ []) (unequal (greater a b) c)

unfoldable pub min_max_laws : List Row
min_max_laws = min_eq_left ∷ min_eq_right ∷ max_eq_left ∷ max_eq_right ∷ lt_min ∷ le_min ∷ min_ne ∷ lt_max_left ∷ lt_max_right ∷ le_max_left ∷ le_max_right ∷ max_ne ∷ []
