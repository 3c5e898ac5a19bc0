-- The sorts of the parts of a well sorted tree.
use Rattle.std.proofs.Common.{◌≡◌, ℕ, List, [], ◌∷◌, length, map, refl, Bool, true, false, ◌&&◌, nat_eq, arith}
use Rattle.std.specs.Prelude.{if◌then◌else◌}
use Rattle.std.proofs.lemmas.Bool.{and_parts}
use Rattle.std.proofs.lemmas.Bool.Decides.{nat_tests}
use Rattle.alg_terms.specs.declared.sorts.Sort.{Sort}
use Rattle.alg_terms.specs.declared.sorts.Sort.TheVariants.{Nat, Int}
use Rattle.alg_terms.specs.declared.symbols.Sym.{Sym}
use Rattle.alg_terms.specs.declared.symbols.Place.{Place}
use Rattle.alg_terms.specs.declared.symbols.Place.TheVariants.{Same, OfNat, OfInt}
use Rattle.alg_terms.specs.Symbols.{places, serves, place_fits, places_fit, arguments_fit}
use Rattle.alg_terms.proofs.OrderLaws.{sort_same-equal}
use Rattle.alg_law.specs.declared.marks.Mark.{Mark}
use Rattle.alg_law.specs.declared.marks.Mark.TheVariants.{Good, BadSort}
use Rattle.alg_law.specs.Declarations.{Declaration}
use Rattle.alg_law.specs.WellSorted.{built_in_mark, class_mark, has_classes}
use Rattle.alg_value_laws.specs.Places.{expected, sorts_over}

place_is : (p : Place) (s t : Sort) → place_fits p s t ≡ true → t ≡ expected s p
place_is Same s t e = sort_same-equal t s e
place_is OfNat s t e = sort_same-equal t Nat e
place_is OfInt s t e = sort_same-equal t Int e

places_are : (ps : List Place) (s : Sort) (ts : List Sort) → length ps ≡ length ts → places_fit ps s ts ≡ true → ts ≡ map (expected s) ps
places_are [] s [] n e = refl
places_are [] s (t ∷ ts) n e = absurd (omega (arith, n))
places_are (p ∷ ps) s [] n e = absurd (omega (arith, n))
places_are (p ∷ ps) s (t ∷ ts) n e =
    let both = and_parts (place_fits p s t) (places_fit ps s ts) e in
    let first = place_is p s t both.0 in
    let rest = places_are ps s ts (omega (arith, n)) both.1 in
    λ i. first i ∷ rest i

good_test : (b : Bool) (m : Mark) → (if b then m else BadSort) ≡ Good → b ≡ true
good_test true m e = refl
good_test false m e = cc

nat_eq-equal : (m n : ℕ) → nat_eq m n ≡ true → m ≡ n
nat_eq-equal m n e = grind (arith, nat_tests)

pub sorts_are : (ds : List Declaration) (f : Sym) (s : Sort) (ts : List Sort) → built_in_mark ds f s ts ≡ Good → ts ≡ sorts_over f s
sorts_are ds f s ts e =
    let tests = and_parts (nat_eq (length (places f)) (length ts)) (arguments_fit f s ts) (good_test (nat_eq (length (places f)) (length ts) && arguments_fit f s ts) (class_mark (has_classes ds f s)) e) in
    places_are (places f) s ts (nat_eq-equal _ _ tests.0) (and_parts (places_fit (places f) s ts) (serves f s) tests.1).0
