-- What two values say of a relation between them.
use Rattle.std.specs.Prelude.{Bool, true, false, ◌&&◌, nat_eq, Option, Some, None, if◌then◌else◌}
use Rattle.std.specs.Ordering.{int_eq, is_lt}
use Rattle.alg_terms.specs.declared.sorts.Sort.{Sort}
use Rattle.alg_terms.specs.declared.relations.Rel.{Rel}
use Rattle.alg_terms.specs.declared.relations.Rel.TheVariants.{Eq, Ne, Lt, Le, Dvd}
use Rattle.alg_num.specs.Fraction.{Fraction}
use Rattle.alg_num.specs.Order.{order_of}
use Rattle.alg_law.specs.declared.classes.Class.TheVariants.{CharZero, IsStrictOrderedRing}
use Rattle.alg_law.specs.Computing.{divides}
use Rattle.alg_values.specs.Setting.{Classes}
use Rattle.alg_values.specs.Ranges.{cross_products_in_range, difference_in_range}
use Rattle.alg_values.specs.Arithmetic.{size_of}
use Rattle.alg_values.specs.Functions.{is_at_most}

-- fractions in lowest terms are equal where both numbers are
abbrev pub is_same : Fraction → Fraction → Bool
is_same p q = int_eq p.numerator q.numerator && nat_eq p.denominator q.denominator

abbrev pub is_less : Fraction → Fraction → Bool
is_less p q = is_lt (order_of p q)

-- the numbers that the comparison computes are in range
abbrev pub comparison_in_range : Rel → Fraction → Fraction → Bool
comparison_in_range Eq p q = true
comparison_in_range Ne p q = difference_in_range p q
comparison_in_range Lt p q = cross_products_in_range p q
comparison_in_range Le p q = cross_products_in_range p q
comparison_in_range Dvd p q = true

-- an answer where it's known that it's right
abbrev pub known_if : Bool → Bool → Option Bool
known_if true answer = Some answer
known_if false answer = None

-- whether the relation holds between the values of a sort, or `None` where the classes of the sort don't tell
abbrev pub decided : Classes → Rel → Sort → Fraction → Fraction → Option Bool
decided has Eq s p q = if is_same p q then Some true else known_if (has s CharZero) false
decided has Ne s p q = if is_same p q then Some false else known_if (has s CharZero) true
decided has Lt s p q = if is_same p q then Some false else known_if (has s IsStrictOrderedRing) (is_less p q)
decided has Le s p q = if is_same p q then Some true else known_if (has s IsStrictOrderedRing) (is_at_most p q)
decided has Dvd s p q = Some (divides (size_of p) (size_of q))
