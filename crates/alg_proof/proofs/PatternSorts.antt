-- Which rows have a well sorted conclusion in each instance: a test of patterns.
use Rattle.std.specs.Prelude.{ℕ, Bool, true, false, ◌&&◌, ◌||◌, if◌then◌else◌, nat_eq, nat_lt, List, [], ◌∷◌}
use Rattle.alg_terms.specs.declared.sorts.Sort.TheVariants.{Nat, Int}
use Rattle.alg_terms.specs.declared.symbols.Sym.{Sym}
use Rattle.alg_terms.specs.declared.symbols.Sym.TheVariants.{Add, Mul, Neg, Sub, Inv, Div, Npow, Zpow, Nsmul, Zsmul, Abs, Min, Max, NatSub, IDiv, Mod, Gcd, Lcm, Fact, Choose, Fib, Apply}
use Rattle.alg_terms.specs.declared.symbols.Place.{Place}
use Rattle.alg_terms.specs.declared.symbols.Place.TheVariants.{Same, OfNat, OfInt}
use Rattle.alg_terms.specs.declared.relations.Rel.{Rel}
use Rattle.alg_terms.specs.declared.relations.Rel.TheVariants.{Eq, Ne, Lt, Le, Dvd}
use Rattle.alg_terms.specs.Symbols.{places}
use Rattle.alg_law.specs.declared.classes.Class.{Class}
use Rattle.alg_law.specs.declared.classes.Class.TheVariants as class
use Rattle.alg_law.specs.declared.rows.Need.{Need}
use Rattle.alg_law.specs.declared.rows.Need.TheVariants as need
use Rattle.alg_law.specs.declared.patterns.PatSort.{PatSort}
use Rattle.alg_law.specs.declared.patterns.PatSort.TheVariants as of
use Rattle.alg_law.specs.Classes.{all_of, is_among, gives, own_classes}
use Rattle.alg_law.specs.WellSorted.{literal_class}
use Rattle.alg_law.specs.Patterns.{Pat, Letter, PLit, PApp, Pats, PNil, PCons, PatStatement}
use Rattle.alg_law.specs.Rows.{Row, letters_of}

abbrev pub pat_sort_same : PatSort → PatSort → Bool
pat_sort_same of.S of.S = true
pat_sort_same of.S of.Nat = false
pat_sort_same of.S of.Int = false
pat_sort_same of.Nat of.S = false
pat_sort_same of.Nat of.Nat = true
pat_sort_same of.Nat of.Int = false
pat_sort_same of.Int of.S = false
pat_sort_same of.Int of.Nat = false
pat_sort_same of.Int of.Int = true

-- the sort of a letter, and of a pattern
abbrev pub letter_pat_sort : ℕ → PatSort
letter_pat_sort k = if nat_lt k 4 then of.S else (if nat_lt k 6 then of.Nat else of.Int)

abbrev pub pat_sort : Pat → PatSort
pat_sort (Letter k) = letter_pat_sort k
pat_sort (PLit p n) = p
pat_sort (PApp f p ps) = p

-- a class that comes with another in every base: those that it implies, and those that must be there before it
abbrev pub comes_with : Class → Class → Bool
comes_with class.CharZero c = is_among (all_of class.CharZero) c || is_among (all_of class.Semiring) c
comes_with class.IsStrictOrderedRing c = is_among (all_of class.IsStrictOrderedRing) c || (is_among (all_of class.Semiring) c || is_among (all_of class.LinearOrder) c)
comes_with k c = is_among (all_of k) c

-- the needs of a row give its sort the class
abbrev pub needs_give : List Need → Class → Bool
needs_give [] c = false
needs_give (need.Class k ∷ ns) c = comes_with k c || needs_give ns c
needs_give (need.IsNat ∷ ns) c = gives (own_classes Nat) c || needs_give ns c

-- a pattern's sort has the class in each instance
abbrev pub class_ok : List Need → PatSort → Class → Bool
class_ok ns of.S c = needs_give ns c
class_ok ns of.Nat c = gives (own_classes Nat) c
class_ok ns of.Int c = gives (own_classes Int) c

abbrev pub needs_nat : List Need → Bool
needs_nat [] = false
needs_nat (need.Class k ∷ ns) = needs_nat ns
needs_nat (need.IsNat ∷ ns) = true

-- the sort is ℕ in each instance
abbrev pub is_nat : List Need → PatSort → Bool
is_nat ns of.S = needs_nat ns
is_nat ns of.Nat = true
is_nat ns of.Int = false

-- ℕ or ℤ
abbrev pub is_whole : List Need → PatSort → Bool
is_whole ns of.S = needs_nat ns
is_whole ns of.Nat = true
is_whole ns of.Int = true

-- the symbol may have a value of the sort, classes aside
abbrev pub serves_ok : List Need → Sym → PatSort → Bool
serves_ok ns NatSub p = is_nat ns p
serves_ok ns IDiv p = is_whole ns p
serves_ok ns Mod p = is_whole ns p
serves_ok ns Gcd p = is_nat ns p
serves_ok ns Lcm p = is_nat ns p
serves_ok ns Fact p = is_nat ns p
serves_ok ns Choose p = is_nat ns p
serves_ok ns Fib p = is_nat ns p
serves_ok ns (Apply k) p = false
serves_ok ns _ p = true

-- the sort has the classes that the symbol needs
abbrev pub classes_ok : List Need → Sym → PatSort → Bool
classes_ok ns Add p = class_ok ns p class.AddMonoid
classes_ok ns Mul p = class_ok ns p class.Semigroup
classes_ok ns Neg p = class_ok ns p class.AddGroup
classes_ok ns Sub p = class_ok ns p class.AddGroup
classes_ok ns Inv p = class_ok ns p class.Group || class_ok ns p class.Field
classes_ok ns Div p = class_ok ns p class.Group || class_ok ns p class.Field
classes_ok ns Npow p = class_ok ns p class.Monoid
classes_ok ns Zpow p = class_ok ns p class.Group || class_ok ns p class.Field
classes_ok ns Nsmul p = class_ok ns p class.AddMonoid
classes_ok ns Zsmul p = class_ok ns p class.AddGroup
classes_ok ns Abs p = class_ok ns p class.Ring && class_ok ns p class.IsStrictOrderedRing
classes_ok ns Min p = class_ok ns p class.LinearOrder
classes_ok ns Max p = class_ok ns p class.LinearOrder
classes_ok ns _ p = true

abbrev pub place_ok : Place → PatSort → PatSort → Bool
place_ok Same p q = pat_sort_same q p
place_ok OfNat p q = pat_sort_same q of.Nat
place_ok OfInt p q = pat_sort_same q of.Int

-- a part of its sort at each place
abbrev pub places_ok : List Place → PatSort → Pats → Bool
places_ok [] p PNil = true
places_ok [] p (PCons q qs) = false
places_ok (l ∷ ls) p PNil = false
places_ok (l ∷ ls) p (PCons q qs) = place_ok l p (pat_sort q) && places_ok ls p qs

abbrev pub is_letter : List ℕ → ℕ → Bool
is_letter [] k = false
is_letter (l ∷ ls) k = nat_eq l k || is_letter ls k

-- the pattern is well sorted in each instance of a row with these needs and letters
abbrev mutual
  pub pat_ok : List Need → List ℕ → Pat → Bool
  pat_ok ns ls (Letter k) = is_letter ls k
  pat_ok ns ls (PLit p n) = class_ok ns p (literal_class n)
  pat_ok ns ls (PApp f p ps) = places_ok (places f) p ps && serves_ok ns f p && classes_ok ns f p && pats_ok ns ls ps

  pub pats_ok : List Need → List ℕ → Pats → Bool
  pats_ok ns ls PNil = true
  pats_ok ns ls (PCons p ps) = pat_ok ns ls p && pats_ok ns ls ps

-- the sort has the relation
abbrev pub relation_ok : List Need → Rel → PatSort → Bool
relation_ok ns Eq p = true
relation_ok ns Ne p = true
relation_ok ns Lt p = class_ok ns p class.LinearOrder
relation_ok ns Le p = class_ok ns p class.LinearOrder
relation_ok ns Dvd p = is_whole ns p

abbrev pub pat_statement_ok : List Need → List ℕ → PatStatement → Bool
pat_statement_ok ns ls p =
    pat_ok ns ls p.lhs && pat_ok ns ls p.rhs && pat_sort_same (pat_sort p.lhs) p.sort && pat_sort_same (pat_sort p.rhs) p.sort && relation_ok ns p.rel p.sort

abbrev pub row_ok : Row → Bool
row_ok r = pat_statement_ok r.needs (letters_of r) r.conclusion

abbrev pub rows_ok : List Row → Bool
rows_ok [] = true
rows_ok (r ∷ rs) = row_ok r && rows_ok rs
