-- The table of the laws: the axioms of the classes, and what follows from them. Most names are those of Mathlib.
use Rattle.std.specs.Prelude.{ℕ, List, [], ◌∷◌, flat_map, Option, Some, None, if◌then◌else◌, nat_eq}
use Rattle.std.specs.Cmp.Lexicographic.{pointwise}
use Rattle.alg_law.specs.Rows.{Row}
use Rattle.alg_law.specs.AdditiveLaws.{sum_laws, multiple_laws}
use Rattle.alg_law.specs.MultiplicativeLaws.{product_laws, power_laws}
use Rattle.alg_law.specs.RingLaws.{semiring_laws, field_laws, unequal_laws}
use Rattle.alg_law.specs.OrderLaws.{order_laws, min_max_laws}
use Rattle.alg_law.specs.OrderedRingLaws.{ordered_semiring_laws, ordered_ring_laws}

unfoldable pub law_groups : List (List Row)
law_groups = sum_laws ∷ multiple_laws ∷ product_laws ∷ power_laws ∷ semiring_laws ∷ field_laws ∷ unequal_laws ∷ order_laws ∷ min_max_laws ∷ ordered_semiring_laws ∷ ordered_ring_laws ∷ []

abbrev pub rows_in : List (List Row) → List Row
rows_in groups = flat_map (λ g. g) groups

-- the laws, one group after another
unfoldable pub law_table : List Row
unfolding law_groups
law_table = rows_in law_groups

-- the first row with the name
abbrev pub row_named : List Row → List ℕ → Option Row
row_named [] n = None
row_named (r ∷ rs) n = if pointwise nat_eq r.name n then Some r else row_named rs n
