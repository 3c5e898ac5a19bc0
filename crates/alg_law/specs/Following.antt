-- What a base must have before a declaration.
use Rattle.std.specs.Prelude.{◌≡◌, ℕ, Bool, true, false, ◌&&◌, ◌||◌, List, [], ◌∷◌, ◌++◌, ⊤, All, slice_get}
use Rattle.alg_terms.specs.declared.sorts.Sort.{Sort}
use Rattle.alg_terms.specs.declared.sorts.Sort.TheVariants.{Decl}
use Rattle.alg_law.specs.declared.classes.Class.{Class}
use Rattle.alg_law.specs.declared.classes.Class.TheVariants.{Semigroup, AddMonoid, LinearOrder, Semiring, CharZero, IsStrictOrderedRing}
use Rattle.alg_law.specs.declared.marks.Mark.TheVariants.{Good}
use Rattle.alg_law.specs.Classes.{all_of, is_among}
use Rattle.alg_law.specs.Declarations.{Declaration, Carrier, Instance, Variable, Function, Hypothesis}
use Rattle.alg_law.specs.Having.{has_class}
use Rattle.alg_law.specs.WellSorted.{is_type, sort_mark, IsStatement}

-- the classes that must be there before a class is declared
abbrev pub needs : Class → List Class
needs CharZero = Semiring ∷ []
needs IsStrictOrderedRing = Semiring ∷ LinearOrder ∷ []
needs _ = []

-- the sort has each of these classes
abbrev pub has_all : List Declaration → Sort → List Class → Bool
has_all ds s [] = true
has_all ds s (c ∷ cs) = has_class ds s c && has_all ds s cs

-- the class gives an operation that the sort has already: the product, which each class with a product has from
-- Semigroup, the sum, from AddMonoid, or the order
abbrev pub gives_again : List Declaration → Sort → Class → Bool
gives_again ds s c =
    (has_class ds s Semigroup && is_among (all_of c) Semigroup)
    || (has_class ds s AddMonoid && is_among (all_of c) AddMonoid)
    || (has_class ds s LinearOrder && is_among (all_of c) LinearOrder)

-- the class may be declared for the type variable with this number
pub record IsInstance (ds : List Declaration) (k : ℕ) (c : Class) : Type 0 where
  pub variable : is_type (slice_get ds k) ≡ true
  pub needed : has_all ds (Decl k) (needs c) ≡ true
  pub new : gives_again ds (Decl k) c ≡ false

-- the sort is built in or declared
abbrev pub IsKnown : List Declaration → Sort → Type 0
IsKnown ds s = sort_mark ds s ≡ Good

-- the declaration names only what is there, a class is new and has what it needs, and a hypothesis is well sorted
abbrev pub MayFollow : List Declaration → Declaration → Type 0
MayFollow ds (Carrier n) = ⊤
MayFollow ds (Instance k c) = IsInstance ds k c
MayFollow ds (Variable n s) = IsKnown ds s
MayFollow ds (Function n ss s) = All (IsKnown ds) ss × IsKnown ds s
MayFollow ds (Hypothesis n h) = IsStatement ds h

-- each of these may follow those and the ones before it
abbrev pub AllMayFollow : List Declaration → List Declaration → Type 0
AllMayFollow ds [] = ⊤
AllMayFollow ds (e ∷ es) = MayFollow ds e × AllMayFollow (ds ++ e ∷ []) es

-- each declaration may follow the ones before it
abbrev pub IsWellFormed : List Declaration → Type 0
IsWellFormed ds = AllMayFollow [] ds
