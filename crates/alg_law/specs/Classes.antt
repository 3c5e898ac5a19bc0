-- The classes, and which follow from which.
use Rattle.std.specs.Prelude.{◌≡◌, ℕ, Bool, false, ◌||◌, nat_eq, List, [], ◌∷◌, get_or, refl}
use Rattle.alg_terms.specs.declared.sorts.Sort.{Sort}
use Rattle.alg_terms.specs.declared.sorts.Sort.TheVariants.{Nat, Int, Rat, Decl}
use Rattle.alg_law.specs.declared.classes.Class.{Class}
use Rattle.alg_law.specs.declared.classes.Class.TheVariants.{Semigroup, CommSemigroup, Monoid, CommMonoid, Group, CommGroup, AddMonoid, AddCommMonoid, AddGroup, AddCommGroup, Semiring, CommSemiring, Ring, CommRing, Field, LinearOrder, CharZero, IsStrictOrderedRing, LinearOrderedCommRing, LinearOrderedField}

abbrev pub class_key : Class → ℕ
class_key Semigroup = 0
class_key CommSemigroup = 1
class_key Monoid = 2
class_key CommMonoid = 3
class_key Group = 4
class_key CommGroup = 5
class_key AddMonoid = 6
class_key AddCommMonoid = 7
class_key AddGroup = 8
class_key AddCommGroup = 9
class_key Semiring = 10
class_key CommSemiring = 11
class_key Ring = 12
class_key CommRing = 13
class_key Field = 14
class_key LinearOrder = 15
class_key CharZero = 16
class_key IsStrictOrderedRing = 17
class_key LinearOrderedCommRing = 18
class_key LinearOrderedField = 19

abbrev pub classes : List Class
classes = Semigroup ∷ CommSemigroup ∷ Monoid ∷ CommMonoid ∷ Group ∷ CommGroup ∷ AddMonoid ∷ AddCommMonoid ∷ AddGroup ∷ AddCommGroup ∷ Semiring ∷ CommSemiring ∷ Ring ∷ CommRing ∷ Field ∷ LinearOrder ∷ CharZero ∷ IsStrictOrderedRing ∷ LinearOrderedCommRing ∷ LinearOrderedField ∷ []

abbrev pub class_at : ℕ → Class
class_at n = get_or classes n Semigroup

pub class_at-class_key : (c : Class) → class_at (class_key c) ≡ c
class_at-class_key Semigroup = refl
class_at-class_key CommSemigroup = refl
class_at-class_key Monoid = refl
class_at-class_key CommMonoid = refl
class_at-class_key Group = refl
class_at-class_key CommGroup = refl
class_at-class_key AddMonoid = refl
class_at-class_key AddCommMonoid = refl
class_at-class_key AddGroup = refl
class_at-class_key AddCommGroup = refl
class_at-class_key Semiring = refl
class_at-class_key CommSemiring = refl
class_at-class_key Ring = refl
class_at-class_key CommRing = refl
class_at-class_key Field = refl
class_at-class_key LinearOrder = refl
class_at-class_key CharZero = refl
class_at-class_key IsStrictOrderedRing = refl
class_at-class_key LinearOrderedCommRing = refl
class_at-class_key LinearOrderedField = refl

-- what a class implies at once
abbrev pub implied_by : Class → List Class
implied_by Semigroup = []
implied_by CommSemigroup = Semigroup ∷ []
implied_by Monoid = Semigroup ∷ []
implied_by CommMonoid = Monoid ∷ CommSemigroup ∷ []
implied_by Group = Monoid ∷ []
implied_by CommGroup = Group ∷ CommMonoid ∷ []
implied_by AddMonoid = []
implied_by AddCommMonoid = AddMonoid ∷ []
implied_by AddGroup = AddMonoid ∷ []
implied_by AddCommGroup = AddGroup ∷ AddCommMonoid ∷ []
implied_by Semiring = AddCommMonoid ∷ Monoid ∷ []
implied_by CommSemiring = Semiring ∷ CommMonoid ∷ []
implied_by Ring = Semiring ∷ AddCommGroup ∷ []
implied_by CommRing = Ring ∷ CommSemiring ∷ []
implied_by Field = CommRing ∷ []
implied_by LinearOrder = []
implied_by CharZero = []
implied_by IsStrictOrderedRing = CharZero ∷ []
implied_by LinearOrderedCommRing = CommRing ∷ LinearOrder ∷ IsStrictOrderedRing ∷ []
implied_by LinearOrderedField = Field ∷ LinearOrder ∷ IsStrictOrderedRing ∷ []

-- a class with all that follow from it
abbrev pub all_of : Class → List Class
all_of Semigroup = Semigroup ∷ []
all_of CommSemigroup = CommSemigroup ∷ Semigroup ∷ []
all_of Monoid = Monoid ∷ Semigroup ∷ []
all_of CommMonoid = CommMonoid ∷ Monoid ∷ CommSemigroup ∷ Semigroup ∷ []
all_of Group = Group ∷ Monoid ∷ Semigroup ∷ []
all_of CommGroup = CommGroup ∷ Group ∷ CommMonoid ∷ Monoid ∷ CommSemigroup ∷ Semigroup ∷ []
all_of AddMonoid = AddMonoid ∷ []
all_of AddCommMonoid = AddCommMonoid ∷ AddMonoid ∷ []
all_of AddGroup = AddGroup ∷ AddMonoid ∷ []
all_of AddCommGroup = AddCommGroup ∷ AddGroup ∷ AddCommMonoid ∷ AddMonoid ∷ []
all_of Semiring = Semiring ∷ AddCommMonoid ∷ AddMonoid ∷ Monoid ∷ Semigroup ∷ []
all_of CommSemiring = CommSemiring ∷ Semiring ∷ AddCommMonoid ∷ AddMonoid ∷ CommMonoid ∷ Monoid ∷ CommSemigroup ∷ Semigroup ∷ []
all_of Ring = Ring ∷ Semiring ∷ AddCommGroup ∷ AddGroup ∷ AddCommMonoid ∷ AddMonoid ∷ Monoid ∷ Semigroup ∷ []
all_of CommRing = CommRing ∷ Ring ∷ CommSemiring ∷ Semiring ∷ AddCommGroup ∷ AddGroup ∷ AddCommMonoid ∷ AddMonoid ∷ CommMonoid ∷ Monoid ∷ CommSemigroup ∷ Semigroup ∷ []
all_of Field = Field ∷ CommRing ∷ Ring ∷ CommSemiring ∷ Semiring ∷ AddCommGroup ∷ AddGroup ∷ AddCommMonoid ∷ AddMonoid ∷ CommMonoid ∷ Monoid ∷ CommSemigroup ∷ Semigroup ∷ []
all_of LinearOrder = LinearOrder ∷ []
all_of CharZero = CharZero ∷ []
all_of IsStrictOrderedRing = IsStrictOrderedRing ∷ CharZero ∷ []
all_of LinearOrderedCommRing = LinearOrderedCommRing ∷ LinearOrder ∷ IsStrictOrderedRing ∷ CharZero ∷ CommRing ∷ Ring ∷ CommSemiring ∷ Semiring ∷ AddCommGroup ∷ AddGroup ∷ AddCommMonoid ∷ AddMonoid ∷ CommMonoid ∷ Monoid ∷ CommSemigroup ∷ Semigroup ∷ []
all_of LinearOrderedField = LinearOrderedField ∷ LinearOrder ∷ IsStrictOrderedRing ∷ CharZero ∷ Field ∷ CommRing ∷ Ring ∷ CommSemiring ∷ Semiring ∷ AddCommGroup ∷ AddGroup ∷ AddCommMonoid ∷ AddMonoid ∷ CommMonoid ∷ Monoid ∷ CommSemigroup ∷ Semigroup ∷ []

abbrev pub class_same : Class → Class → Bool
class_same c d = nat_eq (class_key c) (class_key d)

abbrev pub is_among : List Class → Class → Bool
is_among [] c = false
is_among (b ∷ bs) c = class_same b c || is_among bs c

-- one of these classes gives c
abbrev pub gives : List Class → Class → Bool
gives [] c = false
gives (b ∷ bs) c = is_among (all_of b) c || gives bs c

-- the classes of the built-in sorts, without those that follow
abbrev pub own_classes : Sort → List Class
own_classes Nat = CommSemiring ∷ LinearOrder ∷ IsStrictOrderedRing ∷ []
own_classes Int = CommRing ∷ LinearOrder ∷ IsStrictOrderedRing ∷ []
own_classes Rat = Field ∷ LinearOrder ∷ IsStrictOrderedRing ∷ []
own_classes (Decl k) = []
