-- The classes and symbols of the sorts of a pattern, for every sort that meets the needs of a row.
use Rattle.std.specs.Prelude.{ℕ, Bool, true, false, ◌&&◌, ◌||◌, if◌then◌else◌, nat_eq, List, [], ◌∷◌, ◌++◌, length}
use Rattle.alg_terms.specs.declared.sorts.Sort.TheVariants.{Nat, Int}
use Rattle.alg_terms.specs.declared.symbols.Sym.{Sym}
use Rattle.alg_terms.specs.declared.symbols.Sym.TheVariants.{Add, Mul, Neg, Sub, Inv, Div, Npow, Zpow, Nsmul, Zsmul, Abs, Min, Max, NatSub, IDiv, Mod, Gcd, Lcm, Fact, Choose, Fib}
use Rattle.alg_terms.specs.declared.symbols.Place.{Place}
use Rattle.alg_terms.specs.declared.symbols.Place.TheVariants.{Same, OfNat, OfInt}
use Rattle.alg_terms.specs.Symbols.{places, is_built_in}
use Rattle.alg_law.specs.declared.classes.Class.{Class}
use Rattle.alg_law.specs.declared.classes.Class.TheVariants.{AddMonoid, Semigroup, AddGroup, Group, Field, Monoid, Semiring, Ring, IsStrictOrderedRing, LinearOrder, CharZero}
use Rattle.alg_law.specs.declared.patterns.PatSort.{PatSort}
use Rattle.alg_law.specs.declared.patterns.PatSort.TheVariants as of
use Rattle.alg_law.specs.declared.rows.Need.{Need}
use Rattle.alg_law.specs.declared.rows.Need.TheVariants as need
use Rattle.alg_law.specs.Classes.{gives, own_classes}

abbrev pub kind_key : PatSort → ℕ
kind_key of.S = 0
kind_key of.Nat = 1
kind_key of.Int = 2

abbrev pub kind_same : PatSort → PatSort → Bool
kind_same t u = nat_eq (kind_key t) (kind_key u)

-- the classes that a need names
abbrev pub granted : Need → List Class
granted (need.Class c) = c ∷ []
granted need.IsNat = own_classes Nat

abbrev pub all_granted : List Need → List Class
all_granted [] = []
all_granted (n ∷ ns) = granted n ++ all_granted ns

-- what each base has beside these classes
abbrev pub lawful_beside : List Class → List Class
lawful_beside cs =
    if gives cs IsStrictOrderedRing then Semiring ∷ LinearOrder ∷ [] else (if gives cs CharZero then Semiring ∷ [] else [])

-- classes that the sort of the kind has, where the sort of the row meets the needs
abbrev pub classes_of : List Need → PatSort → List Class
classes_of ns of.S = all_granted ns ++ lawful_beside (all_granted ns)
classes_of ns of.Nat = own_classes Nat
classes_of ns of.Int = own_classes Int

abbrev pub kind_has : List Need → PatSort → Class → Bool
kind_has ns t c = gives (classes_of ns t) c

abbrev pub asks_naturals : List Need → Bool
asks_naturals [] = false
asks_naturals (need.Class c ∷ ns) = asks_naturals ns
asks_naturals (need.IsNat ∷ ns) = true

-- the kind is ℕ
abbrev pub is_natural : List Need → PatSort → Bool
is_natural ns of.S = asks_naturals ns
is_natural ns of.Nat = true
is_natural ns of.Int = false

-- the kind is ℕ or ℤ
abbrev pub is_whole : List Need → PatSort → Bool
is_whole ns of.S = asks_naturals ns
is_whole ns of.Nat = true
is_whole ns of.Int = true

-- the needs of a row are met at a kind
abbrev pub need_met : List Need → PatSort → Need → Bool
need_met ns t (need.Class c) = kind_has ns t c
need_met ns t need.IsNat = is_natural ns t

abbrev pub needs_met : List Need → PatSort → List Need → Bool
needs_met ns t [] = true
needs_met ns t (m ∷ ms) = need_met ns t m && needs_met ns t ms

-- an argument of kind u may stand at this place, where the value has kind t
abbrev pub kind_fits : Place → PatSort → PatSort → Bool
kind_fits Same t u = kind_same u t
kind_fits OfNat t u = kind_same u of.Nat
kind_fits OfInt t u = kind_same u of.Int

abbrev pub kinds_fit : List Place → PatSort → List PatSort → Bool
kinds_fit [] t us = true
kinds_fit (p ∷ ps) t [] = true
kinds_fit (p ∷ ps) t (u ∷ us) = kind_fits p t u && kinds_fit ps t us

-- the symbol may have a value of this kind, classes aside
abbrev pub kind_serves : List Need → Sym → PatSort → Bool
kind_serves ns NatSub t = is_natural ns t
kind_serves ns IDiv t = is_whole ns t
kind_serves ns Mod t = is_whole ns t
kind_serves ns Gcd t = is_natural ns t
kind_serves ns Lcm t = is_natural ns t
kind_serves ns Fact t = is_natural ns t
kind_serves ns Choose t = is_natural ns t
kind_serves ns Fib t = is_natural ns t
kind_serves ns _ t = true

-- the kind has the classes that the symbol needs
abbrev pub kind_has_classes : List Need → Sym → PatSort → Bool
kind_has_classes ns Add t = kind_has ns t AddMonoid
kind_has_classes ns Mul t = kind_has ns t Semigroup
kind_has_classes ns Neg t = kind_has ns t AddGroup
kind_has_classes ns Sub t = kind_has ns t AddGroup
kind_has_classes ns Inv t = kind_has ns t Group || kind_has ns t Field
kind_has_classes ns Div t = kind_has ns t Group || kind_has ns t Field
kind_has_classes ns Npow t = kind_has ns t Monoid
kind_has_classes ns Zpow t = kind_has ns t Group || kind_has ns t Field
kind_has_classes ns Nsmul t = kind_has ns t AddMonoid
kind_has_classes ns Zsmul t = kind_has ns t AddGroup
kind_has_classes ns Abs t = kind_has ns t Ring && kind_has ns t IsStrictOrderedRing
kind_has_classes ns Min t = kind_has ns t LinearOrder
kind_has_classes ns Max t = kind_has ns t LinearOrder
kind_has_classes ns _ t = true

-- a built-in symbol over arguments of these kinds has a value of this kind
abbrev pub head_fits : List Need → Sym → PatSort → List PatSort → Bool
head_fits ns f t us =
    is_built_in f && (nat_eq (length (places f)) (length us) && (kinds_fit (places f) t us && kind_serves ns f t)) && kind_has_classes ns f t
