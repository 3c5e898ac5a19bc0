-- The names of the classes.
use Rattle.std.specs.Prelude.{ℕ, List, [], ◌∷◌, codes, Option, Some, None}
use Rattle.alg_law.specs.declared.classes.Class.{Class}
use Rattle.alg_law.specs.declared.classes.Class.TheVariants as class
use Rattle.alg_names.specs.Found.{found}

abbrev pub multiplicative : List (List ℕ × Class)
multiplicative = (codes "Semigroup", class.Semigroup) ∷ (codes "CommSemigroup", class.CommSemigroup) ∷ (codes "Monoid", class.Monoid) ∷ (codes "CommMonoid", class.CommMonoid) ∷ (codes "Group", class.Group) ∷ (codes "CommGroup", class.CommGroup) ∷ []

abbrev pub additive : List (List ℕ × Class)
additive = (codes "AddMonoid", class.AddMonoid) ∷ (codes "AddCommMonoid", class.AddCommMonoid) ∷ (codes "AddGroup", class.AddGroup) ∷ (codes "AddCommGroup", class.AddCommGroup) ∷ []

abbrev pub rings : List (List ℕ × Class)
rings = (codes "Semiring", class.Semiring) ∷ (codes "CommSemiring", class.CommSemiring) ∷ (codes "Ring", class.Ring) ∷ (codes "CommRing", class.CommRing) ∷ (codes "Field", class.Field) ∷ []

abbrev pub ordered : List (List ℕ × Class)
ordered = (codes "LinearOrder", class.LinearOrder) ∷ (codes "CharZero", class.CharZero) ∷ (codes "IsStrictOrderedRing", class.IsStrictOrderedRing) ∷ (codes "LinearOrderedCommRing", class.LinearOrderedCommRing) ∷ (codes "LinearOrderedField", class.LinearOrderedField) ∷ []

abbrev pub or_class : Option Class → Option Class → Option Class
or_class (Some c) o = Some c
or_class None o = o

-- the class with this name
abbrev pub class_named : List ℕ → Option Class
class_named x = or_class (found multiplicative x) (or_class (found additive x) (or_class (found rings x) (found ordered x)))
