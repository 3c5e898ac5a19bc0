-- A pattern that passes the test is well sorted in each instance.
use Rattle.std.specs.Prelude.{◌≡◌, ℕ, suc, Bool, true, false, ◌&&◌, ◌||◌, not, if◌then◌else◌, nat_eq, nat_lt, List, [], ◌∷◌, length, map, get_or, refl, ◌⊎◌}
use Rattle.std.proofs.Common.{ap, sym, ◌∙◌, subst, arith, inl, inr}
use Rattle.std.proofs.lemmas.Bool.{and_parts, and_from, or_left, or_right}
use Rattle.std.proofs.lemmas.Bool.Decides.{nat_tests}
use Rattle.alg_terms.specs.declared.sorts.Sort.{Sort}
use Rattle.alg_terms.specs.declared.sorts.Sort.TheVariants.{Nat, Int}
use Rattle.alg_terms.specs.declared.symbols.Sym.{Sym}
use Rattle.alg_terms.specs.declared.symbols.Sym.TheVariants.{Add, Mul, Neg, Sub, Inv, Div, Npow, Zpow, Nsmul, Zsmul, Abs, Min, Max, NatSub, IDiv, Mod, Gcd, Lcm, Fact, Choose, Fib, Apply}
use Rattle.alg_terms.specs.declared.symbols.Place.{Place}
use Rattle.alg_terms.specs.declared.symbols.Place.TheVariants.{Same, OfNat, OfInt}
use Rattle.alg_terms.specs.declared.relations.Rel.{Rel}
use Rattle.alg_terms.specs.declared.relations.Rel.TheVariants.{Eq, Ne, Lt, Le, Dvd}
use Rattle.alg_terms.specs.Symbols.{places, places_fit, place_fits, serves, arguments_fit, is_integral}
use Rattle.alg_terms.specs.Tree.{Tree, Lit, Trees, Nil, Cons, of_list, sort_of_tree}
use Rattle.alg_terms.specs.Order.{sort_same}
use Rattle.alg_terms.proofs.OrderLaws.{sort_same-equal, sort_same-self}
use Rattle.alg_law.specs.declared.classes.Class.{Class}
use Rattle.alg_law.specs.declared.classes.Class.TheVariants as class
use Rattle.alg_law.specs.declared.rows.Need.{Need}
use Rattle.alg_law.specs.declared.rows.Need.TheVariants as need
use Rattle.alg_law.specs.declared.patterns.PatSort.{PatSort}
use Rattle.alg_law.specs.declared.patterns.PatSort.TheVariants as of
use Rattle.alg_law.specs.declared.marks.Mark.TheVariants.{Good}
use Rattle.alg_law.specs.Classes.{all_of, is_among, gives, own_classes}
use Rattle.alg_law.specs.Declarations.{Declaration}
use Rattle.alg_law.specs.Having.{has_class, instances_give}
use Rattle.alg_law.proofs.HavingLaws.{has_class-all}
use Rattle.alg_law.specs.Lawful.{IsLawful}
use Rattle.alg_law.specs.WellSorted.{literal_class, class_mark, sort_mark, has_classes, built_in_mark, symbol_mark, head_mark, mark_of, marks_of, sorts_of, has_relation, IsWellSorted, AreWellSorted, IsStatement}
use Rattle.alg_law.proofs.WellSortedLaws.{worse-good, worse-parts}
use Rattle.alg_law.specs.Patterns.{Pat, Letter, PLit, PApp, Pats, PNil, PCons, PatStatement, sort_for, letter_sort, index_in, fill, fills, fill_statement}
use Rattle.alg_law.specs.Rows.{Row, letters_of, MayFill, meets_all}
use Rattle.alg_proof.proofs.PatternSorts.{pat_sort_same, letter_pat_sort, pat_sort, comes_with, needs_give, class_ok, needs_nat, is_nat, is_whole, serves_ok, classes_ok, place_ok, places_ok, is_letter, pat_ok, pats_ok, relation_ok, row_ok}

abbrev pub or_else : (x y : Bool) → (x || y) ≡ true → (x ≡ true) ⊎ (y ≡ true)
or_else true y e = inl refl
or_else false y e = inr e

-- in a lawful list CharZero comes with Semiring, and IsStrictOrderedRing with Semiring and LinearOrder
from_char : (cz sr io lo gr : Bool) → ((not cz || sr) && (not io || (sr && lo)) && not (gr && sr)) ≡ true → cz ≡ true → sr ≡ true
from_char true true io lo gr e h = refl
from_char true false io lo gr e h = cc
from_char false sr io lo gr e h = cc

from_order : (cz sr io lo gr : Bool) → ((not cz || sr) && (not io || (sr && lo)) && not (gr && sr)) ≡ true → io ≡ true → (sr ≡ true) × (lo ≡ true)
from_order cz sr false lo gr e h = cc
from_order cz true true true gr e h = (refl, refl)
from_order true true true false gr e h = cc
from_order false true true false gr e h = cc
from_order true false true lo gr e h = cc
from_order false false true lo gr e h = cc

module _ (ds : List Declaration) (lawful : IsLawful ds) (s : Sort) where
  pub char_zero-semiring : has_class ds s class.CharZero ≡ true → has_class ds s class.Semiring ≡ true
  char_zero-semiring h = from_char _ _ _ _ _ (and_parts _ _ (lawful s)).0 h

  pub ordered-parts : has_class ds s class.IsStrictOrderedRing ≡ true → (has_class ds s class.Semiring ≡ true) × (has_class ds s class.LinearOrder ≡ true)
  ordered-parts h = from_order _ _ _ _ _ (and_parts _ _ (lawful s)).0 h

  comes : (k c : Class) → comes_with k c ≡ true → has_class ds s k ≡ true → has_class ds s c ≡ true
  comes class.Semigroup c e h = has_class-all ds s class.Semigroup c e h
  comes class.CommSemigroup c e h = has_class-all ds s class.CommSemigroup c e h
  comes class.Monoid c e h = has_class-all ds s class.Monoid c e h
  comes class.CommMonoid c e h = has_class-all ds s class.CommMonoid c e h
  comes class.Group c e h = has_class-all ds s class.Group c e h
  comes class.CommGroup c e h = has_class-all ds s class.CommGroup c e h
  comes class.AddMonoid c e h = has_class-all ds s class.AddMonoid c e h
  comes class.AddCommMonoid c e h = has_class-all ds s class.AddCommMonoid c e h
  comes class.AddGroup c e h = has_class-all ds s class.AddGroup c e h
  comes class.AddCommGroup c e h = has_class-all ds s class.AddCommGroup c e h
  comes class.Semiring c e h = has_class-all ds s class.Semiring c e h
  comes class.CommSemiring c e h = has_class-all ds s class.CommSemiring c e h
  comes class.Ring c e h = has_class-all ds s class.Ring c e h
  comes class.CommRing c e h = has_class-all ds s class.CommRing c e h
  comes class.Field c e h = has_class-all ds s class.Field c e h
  comes class.LinearOrder c e h = has_class-all ds s class.LinearOrder c e h
  comes class.CharZero c e h =
      elim (or_else (is_among (all_of class.CharZero) c) (is_among (all_of class.Semiring) c) e) [
        | inl p ↦ has_class-all ds s class.CharZero c p h
        | inr p ↦ has_class-all ds s class.Semiring c p (char_zero-semiring h)
      ]
  comes class.IsStrictOrderedRing c e h =
      elim (or_else (is_among (all_of class.IsStrictOrderedRing) c) (is_among (all_of class.Semiring) c || is_among (all_of class.LinearOrder) c) e) [
        | inl p ↦ has_class-all ds s class.IsStrictOrderedRing c p h
        | inr p ↦ elim (or_else (is_among (all_of class.Semiring) c) (is_among (all_of class.LinearOrder) c) p) [
          | inl q ↦ has_class-all ds s class.Semiring c q (ordered-parts h).0
          | inr q ↦ has_class-all ds s class.LinearOrder c q (ordered-parts h).1
        ]
      ]
  comes class.LinearOrderedCommRing c e h = has_class-all ds s class.LinearOrderedCommRing c e h
  comes class.LinearOrderedField c e h = has_class-all ds s class.LinearOrderedField c e h

  own : (c : Class) (t : Sort) → gives (own_classes t) c ≡ true → has_class ds t c ≡ true
  own c t e = or_left (gives (own_classes t) c) (instances_give ds t c) e

  needs_give-has : (ns : List Need) (c : Class) → meets_all ds s ns ≡ true → needs_give ns c ≡ true → has_class ds s c ≡ true
  needs_give-has [] c m e = cc
  needs_give-has (need.Class k ∷ ns) c m e =
      let p = and_parts (has_class ds s k) (meets_all ds s ns) m in
      elim (or_else (comes_with k c) (needs_give ns c) e) [
        | inl q ↦ comes k c q p.0
        | inr q ↦ needs_give-has ns c p.1 q
      ]
  needs_give-has (need.IsNat ∷ ns) c m e =
      let p = and_parts (sort_same s Nat) (meets_all ds s ns) m in
      elim (or_else (gives (own_classes Nat) c) (needs_give ns c) e) [
        | inl q ↦ subst (λ t. has_class ds t c ≡ true) (sym (sort_same-equal s Nat p.0)) (own c Nat q)
        | inr q ↦ needs_give-has ns c p.1 q
      ]

  needs_nat-is : (ns : List Need) → meets_all ds s ns ≡ true → needs_nat ns ≡ true → s ≡ Nat
  needs_nat-is [] m e = cc
  needs_nat-is (need.Class k ∷ ns) m e = needs_nat-is ns (and_parts (has_class ds s k) (meets_all ds s ns) m).1 e
  needs_nat-is (need.IsNat ∷ ns) m e = sort_same-equal s Nat (and_parts (sort_same s Nat) (meets_all ds s ns) m).0

  module _ (ns : List Need) (m : meets_all ds s ns ≡ true) where
    pub class_ok-has : (p : PatSort) (c : Class) → class_ok ns p c ≡ true → has_class ds (sort_for s p) c ≡ true
    class_ok-has of.S c e = needs_give-has ns c m e
    class_ok-has of.Nat c e = own c Nat e
    class_ok-has of.Int c e = own c Int e

    is_nat-is : (p : PatSort) → is_nat ns p ≡ true → sort_for s p ≡ Nat
    is_nat-is of.S e = needs_nat-is ns m e
    is_nat-is of.Nat e = refl
    is_nat-is of.Int e = cc

    same_nat : (p : PatSort) → is_nat ns p ≡ true → sort_same (sort_for s p) Nat ≡ true
    same_nat p e = rw (is_nat-is p e) (sort_same-self Nat)

    is_whole-is : (p : PatSort) → is_whole ns p ≡ true → is_integral (sort_for s p) ≡ true
    is_whole-is of.S e = rw (needs_nat-is ns m e) refl
    is_whole-is of.Nat e = refl
    is_whole-is of.Int e = refl

    serves_ok-serves : (f : Sym) (p : PatSort) → serves_ok ns f p ≡ true → serves f (sort_for s p) ≡ true
    serves_ok-serves Add p e = refl
    serves_ok-serves Mul p e = refl
    serves_ok-serves Neg p e = refl
    serves_ok-serves Sub p e = refl
    serves_ok-serves Inv p e = refl
    serves_ok-serves Div p e = refl
    serves_ok-serves Npow p e = refl
    serves_ok-serves Zpow p e = refl
    serves_ok-serves Nsmul p e = refl
    serves_ok-serves Zsmul p e = refl
    serves_ok-serves Abs p e = refl
    serves_ok-serves Min p e = refl
    serves_ok-serves Max p e = refl
    serves_ok-serves NatSub p e = same_nat p e
    serves_ok-serves IDiv p e = is_whole-is p e
    serves_ok-serves Mod p e = is_whole-is p e
    serves_ok-serves Gcd p e = same_nat p e
    serves_ok-serves Lcm p e = same_nat p e
    serves_ok-serves Fact p e = same_nat p e
    serves_ok-serves Choose p e = same_nat p e
    serves_ok-serves Fib p e = same_nat p e
    serves_ok-serves (Apply k) p e = cc

    group_or_field : (p : PatSort) → (class_ok ns p class.Group || class_ok ns p class.Field) ≡ true → (has_class ds (sort_for s p) class.Group || has_class ds (sort_for s p) class.Field) ≡ true
    group_or_field p e =
        elim (or_else (class_ok ns p class.Group) (class_ok ns p class.Field) e) [
          | inl q ↦ or_left (has_class ds (sort_for s p) class.Group) (has_class ds (sort_for s p) class.Field) (class_ok-has p class.Group q)
          | inr q ↦ or_right (has_class ds (sort_for s p) class.Group) (has_class ds (sort_for s p) class.Field) (class_ok-has p class.Field q)
        ]

    classes_ok-has : (f : Sym) (p : PatSort) → classes_ok ns f p ≡ true → has_classes ds f (sort_for s p) ≡ true
    classes_ok-has Add p e = class_ok-has p class.AddMonoid e
    classes_ok-has Mul p e = class_ok-has p class.Semigroup e
    classes_ok-has Neg p e = class_ok-has p class.AddGroup e
    classes_ok-has Sub p e = class_ok-has p class.AddGroup e
    classes_ok-has Inv p e = group_or_field p e
    classes_ok-has Div p e = group_or_field p e
    classes_ok-has Npow p e = class_ok-has p class.Monoid e
    classes_ok-has Zpow p e = group_or_field p e
    classes_ok-has Nsmul p e = class_ok-has p class.AddMonoid e
    classes_ok-has Zsmul p e = class_ok-has p class.AddGroup e
    classes_ok-has Abs p e =
        let k = and_parts (class_ok ns p class.Ring) (class_ok ns p class.IsStrictOrderedRing) e in
        and_from (has_class ds (sort_for s p) class.Ring) (has_class ds (sort_for s p) class.IsStrictOrderedRing) (class_ok-has p class.Ring k.0) (class_ok-has p class.IsStrictOrderedRing k.1)
    classes_ok-has Min p e = class_ok-has p class.LinearOrder e
    classes_ok-has Max p e = class_ok-has p class.LinearOrder e
    classes_ok-has NatSub p e = refl
    classes_ok-has IDiv p e = refl
    classes_ok-has Mod p e = refl
    classes_ok-has Gcd p e = refl
    classes_ok-has Lcm p e = refl
    classes_ok-has Fact p e = refl
    classes_ok-has Choose p e = refl
    classes_ok-has Fib p e = refl
    classes_ok-has (Apply k) p e = refl

    pub relation_ok-has : (r : Rel) (p : PatSort) → relation_ok ns r p ≡ true → has_relation ds r (sort_for s p) ≡ true
    relation_ok-has Eq p e = refl
    relation_ok-has Ne p e = refl
    relation_ok-has Lt p e = class_ok-has p class.LinearOrder e
    relation_ok-has Le p e = class_ok-has p class.LinearOrder e
    relation_ok-has Dvd p e = is_whole-is p e

    pub pat_sort_same-is : (p q : PatSort) → pat_sort_same p q ≡ true → sort_for s p ≡ sort_for s q
    pat_sort_same-is of.S of.S e = refl
    pat_sort_same-is of.S of.Nat e = cc
    pat_sort_same-is of.S of.Int e = cc
    pat_sort_same-is of.Nat of.S e = cc
    pat_sort_same-is of.Nat of.Nat e = refl
    pat_sort_same-is of.Nat of.Int e = cc
    pat_sort_same-is of.Int of.S e = cc
    pat_sort_same-is of.Int of.Nat e = cc
    pat_sort_same-is of.Int of.Int e = refl

    place_ok-fits : (l : Place) (p q : PatSort) (t : Sort) → t ≡ sort_for s q → place_ok l p q ≡ true → place_fits l (sort_for s p) t ≡ true
    place_ok-fits Same p q t is e = rw (is, pat_sort_same-is q p e) (sort_same-self (sort_for s p))
    place_ok-fits OfNat p q t is e = rw (is, pat_sort_same-is q of.Nat e) (sort_same-self Nat)
    place_ok-fits OfInt p q t is e = rw (is, pat_sort_same-is q of.Int e) (sort_same-self Int)

    module _ (known : sort_mark ds s ≡ Good) (ls : List ℕ) (with : List Tree) (sorts : map sort_of_tree with ≡ map (letter_sort s) ls) (good : AreWellSorted ds (of_list with)) where
      -- well sorted, and of its sort
      abbrev Fits : Tree → Sort → Type 0
      Fits t u = IsWellSorted ds t × (sort_of_tree t ≡ u)

      letter-step : (l k : ℕ) (ks : List ℕ) (x : Tree) (xs : List Tree) (b : Bool) → nat_eq l k ≡ b → Fits x (letter_sort s l) → (is_letter ks k ≡ true → Fits (get_or xs (index_in ks k) (Lit Nat 0)) (letter_sort s k)) → is_letter (l ∷ ks) k ≡ true
          → Fits (get_or (x ∷ xs) (index_in (l ∷ ks) k) (Lit Nat 0)) (letter_sort s k)
      letter-step l k ks x xs true f here later h =
          let same : l ≡ k = grind (arith, nat_tests) in
          rw f (here.0, here.1 ∙ ap (letter_sort s) same)
      letter-step l k ks x xs false f here later h =
          let among : is_letter ks k ≡ true = (rw f at h) in
          rw f (later among)

      letter-at : (ks : List ℕ) (xs : List Tree) (k : ℕ) → map sort_of_tree xs ≡ map (letter_sort s) ks → AreWellSorted ds (of_list xs) → is_letter ks k ≡ true → Fits (get_or xs (index_in ks k) (Lit Nat 0)) (letter_sort s k)
      letter-at [] xs k e g h = cc
      letter-at (l ∷ ks) [] k e g h = cc
      letter-at (l ∷ ks) (x ∷ xs) k e g h =
          let parts = worse-parts (mark_of ds x) (marks_of ds (of_list xs)) g in
          let here : sort_of_tree x ≡ letter_sort s l = cc in
          let tails : map sort_of_tree xs ≡ map (letter_sort s) ks = cc in
          letter-step l k ks x xs (nat_eq l k) refl (parts.0, here) (letter-at ks xs k tails parts.1) h

      letter_sort-is : (k : ℕ) → letter_sort s k ≡ sort_for s (letter_pat_sort k)
      letter_sort-is k = by-two (nat_lt k 4) (nat_lt k 6)
        where
          by-two : (b c : Bool) → (if b then s else (if c then Nat else Int)) ≡ sort_for s (if b then of.S else (if c then of.Nat else of.Int))
          by-two true c = refl
          by-two false true = refl
          by-two false false = refl

      known_for : (p : PatSort) → sort_mark ds (sort_for s p) ≡ Good
      known_for of.S = known
      known_for of.Nat = refl
      known_for of.Int = refl

      -- the parts are of the sorts of their places
      data PartsFit : Pats → Trees → Type 0 where
        no_parts : PartsFit PNil Nil
        parts_fit : (p : Pat) (ps : Pats) (t : Tree) (ts : Trees) → sort_of_tree t ≡ sort_for s (pat_sort p) → PartsFit ps ts → PartsFit (PCons p ps) (Cons t ts)

      places_ok-fit : (pls : List Place) (p : PatSort) (ps : Pats) (ts : Trees) → PartsFit ps ts → places_ok pls p ps ≡ true
          → (length pls ≡ length (sorts_of ts)) × (places_fit pls (sort_for s p) (sorts_of ts) ≡ true)
      places_ok-fit [] p _ _ no_parts e = (refl, refl)
      places_ok-fit [] p _ _ (parts_fit q qs t ts is r) e = cc
      places_ok-fit (l ∷ pls) p _ _ no_parts e = cc
      places_ok-fit (l ∷ pls) p _ _ (parts_fit q qs t ts is r) e =
          let k = and_parts (place_ok l p (pat_sort q)) (places_ok pls p qs) e in
          let rest = places_ok-fit pls p qs ts r k.1 in
          (ap suc rest.0, and_from (place_fits l (sort_for s p) (sort_of_tree t)) (places_fit pls (sort_for s p) (sorts_of ts)) (place_ok-fits l p (pat_sort q) (sort_of_tree t) is k.0) rest.1)

      nat_eq-refl : (m n : ℕ) → m ≡ n → nat_eq m n ≡ true
      nat_eq-refl m n e = grind (arith, nat_tests)

      -- a symbol that is no declared function
      built_in-good : (f : Sym) (p : PatSort) (ts : List Sort) → serves_ok ns f p ≡ true → built_in_mark ds f (sort_for s p) ts ≡ Good → symbol_mark ds f (sort_for s p) ts ≡ Good
      built_in-good Add p ts e g = g
      built_in-good Mul p ts e g = g
      built_in-good Neg p ts e g = g
      built_in-good Sub p ts e g = g
      built_in-good Inv p ts e g = g
      built_in-good Div p ts e g = g
      built_in-good Npow p ts e g = g
      built_in-good Zpow p ts e g = g
      built_in-good Nsmul p ts e g = g
      built_in-good Zsmul p ts e g = g
      built_in-good Abs p ts e g = g
      built_in-good Min p ts e g = g
      built_in-good Max p ts e g = g
      built_in-good NatSub p ts e g = g
      built_in-good IDiv p ts e g = g
      built_in-good Mod p ts e g = g
      built_in-good Gcd p ts e g = g
      built_in-good Lcm p ts e g = g
      built_in-good Fact p ts e g = g
      built_in-good Choose p ts e g = g
      built_in-good Fib p ts e g = g
      built_in-good (Apply k) p ts e g = cc

      head-good : (f : Sym) (p : PatSort) (ps : Pats) (ts : Trees) → PartsFit ps ts → places_ok (places f) p ps ≡ true → serves_ok ns f p ≡ true → classes_ok ns f p ≡ true → head_mark ds f (sort_for s p) (sorts_of ts) ≡ Good
      head-good f p ps ts r e g h =
          let k = places_ok-fit (places f) p ps ts r e in
          let count : nat_eq (length (places f)) (length (sorts_of ts)) ≡ true = nat_eq-refl _ _ k.0 in
          let fit : arguments_fit f (sort_for s p) (sorts_of ts) ≡ true = and_from (places_fit (places f) (sort_for s p) (sorts_of ts)) (serves f (sort_for s p)) k.1 (serves_ok-serves f p g) in
          let there : has_classes ds f (sort_for s p) ≡ true = classes_ok-has f p h in
          let mark : built_in_mark ds f (sort_for s p) (sorts_of ts) ≡ Good = rw (count, fit, there) refl in
          worse-good (sort_mark ds (sort_for s p)) _ (known_for p) (built_in-good f p (sorts_of ts) g mark)

      mutual
        pub pat_ok-fits : (p : Pat) → pat_ok ns ls p ≡ true → IsWellSorted ds (fill ls s with p) × (sort_of_tree (fill ls s with p) ≡ sort_for s (pat_sort p))
        pat_ok-fits (Letter k) e =
            let h = letter-at ls with k sorts good e in
            (h.0, h.1 ∙ letter_sort-is k)
        pat_ok-fits (PLit p n) e = (worse-good (sort_mark ds (sort_for s p)) _ (known_for p) (ap class_mark (class_ok-has p (literal_class n) e)), refl)
        pat_ok-fits (PApp f p ps) e =
            let a = and_parts (places_ok (places f) p ps && serves_ok ns f p && classes_ok ns f p) (pats_ok ns ls ps) e in
            let b = and_parts (places_ok (places f) p ps && serves_ok ns f p) (classes_ok ns f p) a.0 in
            let c = and_parts (places_ok (places f) p ps) (serves_ok ns f p) b.0 in
            let h = pats_ok-fit ps a.1 in
            (worse-good (head_mark ds f (sort_for s p) (sorts_of (fills ls s with ps))) _ (head-good f p ps (fills ls s with ps) h.1 c.0 c.1 b.1) h.0, refl)

        pats_ok-fit : (ps : Pats) → pats_ok ns ls ps ≡ true → AreWellSorted ds (fills ls s with ps) × PartsFit ps (fills ls s with ps)
        pats_ok-fit PNil e = (refl, no_parts)
        pats_ok-fit (PCons p ps) e =
            let k = and_parts (pat_ok ns ls p) (pats_ok ns ls ps) e in
            let h = pat_ok-fits p k.0 in
            let r = pats_ok-fit ps k.1 in
            (worse-good (mark_of ds (fill ls s with p)) _ h.0 r.0, parts_fit p ps (fill ls s with p) (fills ls s with ps) h.1 r.1)

-- the conclusion of an instance is well sorted
pub row_ok-statement : (ds : List Declaration) (r : Row) (s : Sort) (with : List Tree) → IsLawful ds → row_ok r ≡ true → MayFill ds r s with → IsStatement ds (fill_statement (letters_of r) s with r.conclusion)
row_ok-statement ds r s with lawful e m =
    let p : PatStatement = r.conclusion in
    let ls : List ℕ = letters_of r in
    let a = and_parts (pat_ok r.needs ls p.lhs && pat_ok r.needs ls p.rhs && pat_sort_same (pat_sort p.lhs) p.sort && pat_sort_same (pat_sort p.rhs) p.sort) (relation_ok r.needs p.rel p.sort) e in
    let b = and_parts (pat_ok r.needs ls p.lhs && pat_ok r.needs ls p.rhs && pat_sort_same (pat_sort p.lhs) p.sort) (pat_sort_same (pat_sort p.rhs) p.sort) a.0 in
    let c = and_parts (pat_ok r.needs ls p.lhs && pat_ok r.needs ls p.rhs) (pat_sort_same (pat_sort p.lhs) p.sort) b.0 in
    let d = and_parts (pat_ok r.needs ls p.lhs) (pat_ok r.needs ls p.rhs) c.0 in
    let left = pat_ok-fits ds lawful s r.needs m.needs m.known ls with m.sorts m.trees p.lhs d.0 in
    let right = pat_ok-fits ds lawful s r.needs m.needs m.known ls with m.sorts m.trees p.rhs d.1 in
    record {
      left = left.0;
      right = right.0;
      left_sort = left.1 ∙ pat_sort_same-is ds lawful s r.needs m.needs (pat_sort p.lhs) p.sort c.1;
      right_sort = right.1 ∙ pat_sort_same-is ds lawful s r.needs m.needs (pat_sort p.rhs) p.sort b.1;
      related = relation_ok-has ds lawful s r.needs m.needs p.rel p.sort a.1;
    }
