-- Each law of a group stands in the table; and some that are cited by name.
use Rattle.std.specs.Prelude.{zero, suc, List, [], ◌∷◌, Contains, refl}
use Rattle.std.proofs.Common.{lit<, sym, subst, arith}
use Rattle.std.proofs.lemmas.List.Elements.{Contains-append_left, Contains-append_right}
use Rattle.alg_law.specs.Rows.{Row}
use Rattle.alg_law.specs.AdditiveLaws.{sum_laws, multiple_laws, add_assoc, add_zero}
use Rattle.alg_law.specs.MultiplicativeLaws.{product_laws, power_laws, mul_one}
use Rattle.alg_law.specs.RingLaws.{semiring_laws, field_laws, unequal_laws, left_distrib, mul_zero}
use Rattle.alg_law.specs.OrderLaws.{order_laws, min_max_laws}
use Rattle.alg_law.specs.OrderedRingLaws.{ordered_semiring_laws, ordered_ring_laws}
use Rattle.alg_law.specs.Laws.{law_groups, rows_in, law_table}

pub in_group : (groups : List (List Row)) (g : List Row) (r : Row) → Contains groups g → Contains g r → Contains (rows_in groups) r
in_group [] g r h i = absurd (omega (arith, h.1))
in_group (f ∷ fs) g r (zero, _, e) i = Contains-append_left f (rows_in fs) r (subst (λ x. Contains x r) (sym e) i)
in_group (f ∷ fs) g r (suc k, l, e) i = Contains-append_right f (rows_in fs) r (in_group fs g r (k, omega (arith, l), e) i)

pub has-sum_law : (r : Row) → Contains sum_laws r → Contains law_table r
unfolding law_table law_groups
has-sum_law r i = in_group law_groups sum_laws r (0, lit< tt, refl) i

pub has-multiple_law : (r : Row) → Contains multiple_laws r → Contains law_table r
unfolding law_table law_groups
has-multiple_law r i = in_group law_groups multiple_laws r (1, lit< tt, refl) i

pub has-product_law : (r : Row) → Contains product_laws r → Contains law_table r
unfolding law_table law_groups
has-product_law r i = in_group law_groups product_laws r (2, lit< tt, refl) i

pub has-power_law : (r : Row) → Contains power_laws r → Contains law_table r
unfolding law_table law_groups
has-power_law r i = in_group law_groups power_laws r (3, lit< tt, refl) i

pub has-semiring_law : (r : Row) → Contains semiring_laws r → Contains law_table r
unfolding law_table law_groups
has-semiring_law r i = in_group law_groups semiring_laws r (4, lit< tt, refl) i

pub has-field_law : (r : Row) → Contains field_laws r → Contains law_table r
unfolding law_table law_groups
has-field_law r i = in_group law_groups field_laws r (5, lit< tt, refl) i

pub has-unequal_law : (r : Row) → Contains unequal_laws r → Contains law_table r
unfolding law_table law_groups
has-unequal_law r i = in_group law_groups unequal_laws r (6, lit< tt, refl) i

pub has-order_law : (r : Row) → Contains order_laws r → Contains law_table r
unfolding law_table law_groups
has-order_law r i = in_group law_groups order_laws r (7, lit< tt, refl) i

pub has-min_max_law : (r : Row) → Contains min_max_laws r → Contains law_table r
unfolding law_table law_groups
has-min_max_law r i = in_group law_groups min_max_laws r (8, lit< tt, refl) i

pub has-ordered_semiring_law : (r : Row) → Contains ordered_semiring_laws r → Contains law_table r
unfolding law_table law_groups
has-ordered_semiring_law r i = in_group law_groups ordered_semiring_laws r (9, lit< tt, refl) i

pub has-ordered_ring_law : (r : Row) → Contains ordered_ring_laws r → Contains law_table r
unfolding law_table law_groups
has-ordered_ring_law r i = in_group law_groups ordered_ring_laws r (10, lit< tt, refl) i

pub has-add_assoc : Contains law_table add_assoc
unfolding sum_laws
has-add_assoc = has-sum_law add_assoc (0, lit< tt, refl)

pub has-add_zero : Contains law_table add_zero
unfolding sum_laws
has-add_zero = has-sum_law add_zero (2, lit< tt, refl)

pub has-mul_one : Contains law_table mul_one
unfolding product_laws
has-mul_one = has-product_law mul_one (3, lit< tt, refl)

pub has-left_distrib : Contains law_table left_distrib
unfolding semiring_laws
has-left_distrib = has-semiring_law left_distrib (0, lit< tt, refl)

pub has-mul_zero : Contains law_table mul_zero
unfolding semiring_laws
has-mul_zero = has-semiring_law mul_zero (3, lit< tt, refl)
