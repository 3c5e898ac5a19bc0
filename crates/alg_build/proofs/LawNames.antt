-- The names of the laws are names.
use Rattle.std.proofs.Common.{◌≡◌, ℕ, List, [], ◌∷◌, Bool, true, false, ◌&&◌, refl, subst, Some}
use Rattle.std.specs.Prelude.{nat_eq, if◌then◌else◌}
use Rattle.std.specs.Cmp.Lexicographic.{pointwise}
use Rattle.std.proofs.lemmas.Bool.{and_parts}
use Rattle.alg_law.specs.AdditiveLaws.{sum_laws, multiple_laws}
use Rattle.alg_law.specs.MultiplicativeLaws.{product_laws, power_laws}
use Rattle.alg_law.specs.RingLaws.{semiring_laws, field_laws, unequal_laws}
use Rattle.alg_law.specs.OrderLaws.{order_laws, min_max_laws}
use Rattle.alg_law.specs.OrderedRingLaws.{ordered_semiring_laws, ordered_ring_laws}
use Rattle.alg_law.specs.Laws.{law_groups, law_table, row_named}
use Rattle.alg_law.specs.Rows.{Row}
use Rattle.alg_proof.specs.Names.{is_name, IsName}

abbrev are_named : List Row → Bool
are_named [] = true
are_named (r ∷ rs) = is_name r.name && are_named rs

laws_named : are_named law_table ≡ true
unfolding law_table law_groups sum_laws multiple_laws product_laws power_laws semiring_laws field_laws unequal_laws order_laws min_max_laws ordered_semiring_laws ordered_ring_laws
laws_named = refl

found : (rows : List Row) (n : List ℕ) (r : Row) → are_named rows ≡ true → row_named rows n ≡ Some r → IsName r.name
found [] n r h e = cc
found (x ∷ xs) n r h e = go (pointwise nat_eq x.name n) (found xs n r (and_parts (is_name x.name) (are_named xs) h).1) e
  where
    go : (b : Bool) → (row_named xs n ≡ Some r → IsName r.name) → (if b then Some x else row_named xs n) ≡ Some r → IsName r.name
    go true k f =
        let s : x ≡ r = cc in
        subst (λ (y : Row). IsName y.name) s (and_parts (is_name x.name) (are_named xs) h).0
    go false k f = k f

pub law-name : (n : List ℕ) (r : Row) → row_named law_table n ≡ Some r → IsName r.name
law-name n r e = found law_table n r laws_named e
