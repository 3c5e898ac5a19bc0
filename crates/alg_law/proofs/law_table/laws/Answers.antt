use Rattle.std.specs.Prelude.{◌≡◌, [], ◌∷◌, All, map, refl}
use Rattle.std.proofs.Common.{subst, sym}
use Rattle.alg_law.specs.LawRows.{row_of}
use Rattle.alg_law.specs.Laws.{law_groups}
use Rattle.alg_law.proofs.NoFalseLaw.{law_groups-true}
use Rattle.alg_law.specs.TrueRows.{IsTrueRow}
use Rattle.alg_law.proofs.law_table.laws.Goals as goal

pub returns-clause-table : goal.returns-clause-table
unfolding law_groups
returns-clause-table c = rw (c.sum_laws.ensures, c.multiple_laws.ensures, c.product_laws.ensures, c.power_laws.ensures, c.semiring_laws.ensures, c.field_laws.ensures, c.unequal_laws.ensures, c.order_laws.ensures, c.min_max_laws.ensures, c.ordered_semiring_laws.ensures, c.ordered_ring_laws.ensures) refl

pub returns-clause-none_false : goal.returns-clause-none_false
unfolding law_groups
returns-clause-none_false c =
    let table : map (λ g. map row_of g.now) (c.sum_laws.result ∷ c.multiple_laws.result ∷ c.product_laws.result ∷ c.power_laws.result ∷ c.semiring_laws.result ∷ c.field_laws.result ∷ c.unequal_laws.result ∷ c.order_laws.result ∷ c.min_max_laws.result ∷ c.ordered_semiring_laws.result ∷ c.ordered_ring_laws.result ∷ []) ≡ law_groups = rw (c.sum_laws.ensures, c.multiple_laws.ensures, c.product_laws.ensures, c.power_laws.ensures, c.semiring_laws.ensures, c.field_laws.ensures, c.unequal_laws.ensures, c.order_laws.ensures, c.min_max_laws.ensures, c.ordered_semiring_laws.ensures, c.ordered_ring_laws.ensures) refl in
    subst (λ gs. All (All IsTrueRow) gs) (sym table) law_groups-true
