-- The conclusion of each instance of a law is well sorted.
use Rattle.std.specs.Prelude.{◌≡◌, zero, suc, true, List, [], ◌∷◌, Contains, refl}
use Rattle.std.proofs.Common.{arith, subst}
use Rattle.std.proofs.lemmas.Bool.{and_parts}
use Rattle.alg_terms.specs.declared.sorts.Sort.{Sort}
use Rattle.alg_terms.specs.Tree.{Tree}
use Rattle.alg_law.specs.Declarations.{Declaration}
use Rattle.alg_law.specs.Lawful.{IsLawful}
use Rattle.alg_law.specs.WellSorted.{IsStatement}
use Rattle.alg_law.specs.Patterns.{fill_statement}
use Rattle.alg_law.specs.Rows.{Row, letters_of, MayFill}
use Rattle.alg_law.specs.AdditiveLaws.{sum_laws, multiple_laws}
use Rattle.alg_law.specs.MultiplicativeLaws.{product_laws, power_laws}
use Rattle.alg_law.specs.RingLaws.{semiring_laws, field_laws, unequal_laws}
use Rattle.alg_law.specs.OrderLaws.{order_laws, min_max_laws}
use Rattle.alg_law.specs.OrderedRingLaws.{ordered_semiring_laws, ordered_ring_laws}
use Rattle.alg_law.specs.Laws.{law_groups, law_table}
use Rattle.alg_proof.proofs.PatternSorts.{row_ok, rows_ok}
use Rattle.alg_proof.proofs.PatternLaws.{row_ok-statement}

laws_ok : rows_ok law_table ≡ true
unfolding law_table law_groups sum_laws multiple_laws product_laws power_laws semiring_laws field_laws unequal_laws order_laws min_max_laws ordered_semiring_laws ordered_ring_laws
laws_ok = refl

row_ok-among : (rs : List Row) (r : Row) → rows_ok rs ≡ true → Contains rs r → row_ok r ≡ true
row_ok-among [] r e i = absurd (omega (arith, i.1))
row_ok-among (q ∷ rs) r e (zero, _, is) = subst (λ x. row_ok x ≡ true) is (and_parts (row_ok q) (rows_ok rs) e).0
row_ok-among (q ∷ rs) r e (suc k, l, is) = row_ok-among rs r (and_parts (row_ok q) (rows_ok rs) e).1 (k, omega (arith, l), is)

pub law-statement : (ds : List Declaration) (r : Row) (s : Sort) (with : List Tree) → IsLawful ds → Contains law_table r → MayFill ds r s with → IsStatement ds (fill_statement (letters_of r) s with r.conclusion)
law-statement ds r s with lawful i m = row_ok-statement ds r s with lawful (row_ok-among law_table r laws_ok i) m
