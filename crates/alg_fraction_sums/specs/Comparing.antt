-- What lines that compare two fractions have to write.
use Rattle.std.specs.Prelude.{Bool, true, false}
use Rattle.alg_terms.specs.declared.relations.Rel.{Rel}
use Rattle.alg_terms.specs.declared.relations.Rel.TheVariants.{Eq, Ne, Lt, Le, Dvd}
use Rattle.alg_num.specs.Fraction.{Fraction}
use Rattle.alg_num.specs.Order.{CrossProductsInRange, CrossDifferenceInRange}

-- the relation is `≠`, `<` or `≤`
abbrev pub is_order : Rel → Bool
is_order Eq = false
is_order Ne = true
is_order Lt = true
is_order Le = true
is_order Dvd = false

-- the cross products are in range, and for `≠` their difference too
abbrev pub ComparisonInRange : Rel → Fraction → Fraction → Type 0
ComparisonInRange Ne x y = CrossDifferenceInRange x y
ComparisonInRange r x y = CrossProductsInRange x y
