-- What is tested of the kinds of patterns holds of the sorts of their trees.
use Rattle.std.proofs.Common.{◌≡◌, suc, Bool, true, false, List, [], ◌∷◌, ◌++◌, ◌⊎◌, inl, inr, not, refl, ap, sym, ◌∙◌, subst}
use Rattle.std.specs.Prelude.{◌&&◌, ◌||◌, if◌then◌else◌, nat_eq, map, length}
use Rattle.std.proofs.lemmas.Bool.{and_parts}
use Rattle.alg_terms.specs.declared.sorts.Sort.{Sort}
use Rattle.alg_terms.specs.declared.sorts.Sort.TheVariants.{Nat, Int}
use Rattle.alg_terms.specs.declared.symbols.Sym.{Sym}
use Rattle.alg_terms.specs.declared.symbols.Sym.TheVariants.{Add, Mul, Neg, Sub, Inv, Div, Npow, Zpow, Nsmul, Zsmul, Abs, Min, Max, NatSub, IDiv, Mod, Gcd, Lcm, Fact, Choose, Fib, Apply}
use Rattle.alg_terms.specs.declared.symbols.Place.{Place}
use Rattle.alg_terms.specs.declared.symbols.Place.TheVariants.{Same, OfNat, OfInt}
use Rattle.alg_terms.specs.Order.{sort_same}
use Rattle.alg_terms.proofs.OrderLaws.{sort_same-self, sort_same-equal}
use Rattle.alg_terms.specs.Symbols.{places, is_built_in, is_integral, serves, place_fits, places_fit, arguments_fit}
use Rattle.alg_law.specs.declared.classes.Class.{Class}
use Rattle.alg_law.specs.declared.classes.Class.TheVariants.{AddMonoid, Semigroup, AddGroup, Group, Field, Monoid, Semiring, Ring, IsStrictOrderedRing, LinearOrder, CharZero}
use Rattle.alg_law.specs.declared.marks.Mark.TheVariants.{Good}
use Rattle.alg_law.specs.declared.patterns.PatSort.{PatSort}
use Rattle.alg_law.specs.declared.patterns.PatSort.TheVariants as of
use Rattle.alg_law.specs.declared.rows.Need.{Need}
use Rattle.alg_law.specs.declared.rows.Need.TheVariants as need
use Rattle.alg_law.specs.Declarations.{Declaration}
use Rattle.alg_law.specs.Classes.{class_key, class_same, class_at, class_at-class_key, gives, is_among, own_classes}
use Rattle.alg_law.specs.Having.{Has, built_in, has_class}
use Rattle.alg_law.proofs.HavingLaws.{HaveAll, gives-have, has_class-complete, has_class-sound}
use Rattle.alg_law.specs.Lawful.{IsLawful}
use Rattle.alg_law.specs.Patterns.{sort_for}
use Rattle.alg_law.specs.Rows.{meets, meets_all}
use Rattle.alg_law.specs.WellSorted.{sort_mark, symbol_mark, built_in_mark, head_mark, has_classes}
use Rattle.alg_law.proofs.WellSortedLaws.{worse-good}
use Rattle.alg_lemma.specs.Kinds.{granted, all_granted, lawful_beside, kind_has, asks_naturals, is_natural, is_whole, need_met, needs_met, kind_fits, kinds_fit, kind_serves, kind_has_classes, head_fits}
use Rattle.alg_lemma.proofs.Alike.{same_number, kind_same-equal}

or_parts : (b d : Bool) → (b || d) ≡ true → (b ≡ true) ⊎ (d ≡ true)
or_parts true d e = inl refl
or_parts false d e = inr e

or_right : (b d : Bool) → d ≡ true → (b || d) ≡ true
or_right true d e = refl
or_right false d e = e

class_same-equal : (b c : Class) → class_same b c ≡ true → b ≡ c
class_same-equal b c e = sym (class_at-class_key b) ∙ ap class_at (same_number (class_key b) (class_key c) e) ∙ class_at-class_key c

among-append : (xs ys : List Class) (c : Class) → is_among (xs ++ ys) c ≡ true → (is_among xs c ≡ true) ⊎ (is_among ys c ≡ true)
among-append [] ys c e = inr e
among-append (x ∷ xs) ys c e =
    elim (or_parts (class_same x c) (is_among (xs ++ ys) c) e) [
      | inl p ↦ inl (rw p refl)
      | inr p ↦ elim (among-append xs ys c p) [ inl q ↦ inl (or_right (class_same x c) (is_among xs c) q) | inr q ↦ inr q ]
    ]

from_not : (b d : Bool) → (not b || d) ≡ true → b ≡ true → d ≡ true
from_not true d e f = e
from_not false d e f = cc

either : (b d x y : Bool) → (b ≡ true → x ≡ true) → (d ≡ true → y ≡ true) → (b || d) ≡ true → (x || y) ≡ true
either b d true y h k e = refl
either true d false y h k e = let f : false ≡ true = h refl in cc
either false true false y h k e = k refl
either false false false y h k e = cc

both : (b d x y : Bool) → (b ≡ true → x ≡ true) → (d ≡ true → y ≡ true) → (b && d) ≡ true → (x && y) ≡ true
both b d x y h k e = let p = and_parts b d e in rw (h p.0, k p.1) refl

length-map_sorts : (s : Sort) (us : List PatSort) → length (map (sort_for s) us) ≡ length us
length-map_sorts s [] = refl
length-map_sorts s (u ∷ us) = ap suc (length-map_sorts s us)

symbol-built_in : (ds : List Declaration) (f : Sym) (s : Sort) (ts : List Sort) → is_built_in f ≡ true → symbol_mark ds f s ts ≡ built_in_mark ds f s ts
symbol-built_in ds (Apply k) s ts e = cc
symbol-built_in ds _ s ts e = refl

module _ (ds : List Declaration) (s : Sort) (ns : List Need) (lawful : IsLawful ds) (known : sort_mark ds s ≡ Good) (met : meets_all ds s ns ≡ true) where
  HaveAll-append : (xs ys : List Class) → HaveAll ds s xs → HaveAll ds s ys → HaveAll ds s (xs ++ ys)
  HaveAll-append xs ys h k c e = elim (among-append xs ys c e) [ inl p ↦ h c p | inr p ↦ k c p ]

  granted-have : (n : Need) → meets ds s n ≡ true → HaveAll ds s (granted n)
  granted-have (need.Class b) h c e =
      elim (or_parts (class_same b c) false e) [
        | inl p ↦ subst (λ x. Has ds s x) (class_same-equal b c p) (has_class-sound ds s b h)
        | inr p ↦ cc
      ]
  granted-have need.IsNat h c e = subst (λ t. Has ds t c) (sym (sort_same-equal s Nat h)) (built_in Nat c e)

  all_granted-have : (ms : List Need) → meets_all ds s ms ≡ true → HaveAll ds s (all_granted ms)
  all_granted-have [] h c e = cc
  all_granted-have (m ∷ ms) h c e =
      let p = and_parts (meets ds s m) (meets_all ds s ms) h in
      HaveAll-append (granted m) (all_granted ms) (granted-have m p.0) (all_granted-have ms p.1) c e

  lawful_ordered : has_class ds s IsStrictOrderedRing ≡ true → (has_class ds s Semiring && has_class ds s LinearOrder) ≡ true
  lawful_ordered h =
      from_not (has_class ds s IsStrictOrderedRing) (has_class ds s Semiring && has_class ds s LinearOrder) (and_parts _ _ (and_parts _ _ (and_parts _ _ (lawful s)).0).0).1 h

  lawful_characteristic : has_class ds s CharZero ≡ true → has_class ds s Semiring ≡ true
  lawful_characteristic h =
      from_not (has_class ds s CharZero) (has_class ds s Semiring) (and_parts _ _ (and_parts _ _ (and_parts _ _ (lawful s)).0).0).0 h

  have_two : (b c : Class) → Has ds s b → Has ds s c → HaveAll ds s (b ∷ c ∷ [])
  have_two b c h k x e =
      elim (or_parts (class_same b x) (is_among (c ∷ []) x) e) [
        | inl p ↦ subst (λ y. Has ds s y) (class_same-equal b x p) h
        | inr p ↦ elim (or_parts (class_same c x) false p) [ inl q ↦ subst (λ y. Has ds s y) (class_same-equal c x q) k | inr q ↦ cc ]
      ]

  have_one : (b : Class) → Has ds s b → HaveAll ds s (b ∷ [])
  have_one b h x e = elim (or_parts (class_same b x) false e) [ inl p ↦ subst (λ y. Has ds s y) (class_same-equal b x p) h | inr p ↦ cc ]

  beside-have : (p q : Bool) → (p ≡ true → has_class ds s IsStrictOrderedRing ≡ true) → (q ≡ true → has_class ds s CharZero ≡ true)
      → HaveAll ds s (if p then Semiring ∷ LinearOrder ∷ [] else (if q then Semiring ∷ [] else []))
  beside-have true q h k =
      let b = and_parts (has_class ds s Semiring) (has_class ds s LinearOrder) (lawful_ordered (h refl)) in
      have_two Semiring LinearOrder (has_class-sound ds s Semiring b.0) (has_class-sound ds s LinearOrder b.1)
  beside-have false true h k = have_one Semiring (has_class-sound ds s Semiring (lawful_characteristic (k refl)))
  beside-have false false h k = λ c e. cc

  given-have : (c : Class) → gives (all_granted ns) c ≡ true → has_class ds s c ≡ true
  given-have c e = has_class-complete ds s c (gives-have ds s (all_granted ns) c (all_granted-have ns met) e)

  -- a class that a kind has, its sort has
  pub kind_has-sound : (t : PatSort) (c : Class) → kind_has ns t c ≡ true → has_class ds (sort_for s t) c ≡ true
  kind_has-sound of.S c e =
      has_class-complete ds s c
      (gives-have ds s (all_granted ns ++ lawful_beside (all_granted ns)) c
      (HaveAll-append (all_granted ns) (lawful_beside (all_granted ns)) (all_granted-have ns met)
      (beside-have (gives (all_granted ns) IsStrictOrderedRing) (gives (all_granted ns) CharZero) (given-have IsStrictOrderedRing) (given-have CharZero)))
      e)
  kind_has-sound of.Nat c e = has_class-complete ds Nat c (gives-have ds Nat (own_classes Nat) c (λ x q. built_in Nat x q) e)
  kind_has-sound of.Int c e = has_class-complete ds Int c (gives-have ds Int (own_classes Int) c (λ x q. built_in Int x q) e)

  pub kind_known : (t : PatSort) → sort_mark ds (sort_for s t) ≡ Good
  kind_known of.S = known
  kind_known of.Nat = refl
  kind_known of.Int = refl

  asks-natural : (ms : List Need) → meets_all ds s ms ≡ true → asks_naturals ms ≡ true → s ≡ Nat
  asks-natural [] h e = cc
  asks-natural (need.Class c ∷ ms) h e = asks-natural ms (and_parts (has_class ds s c) (meets_all ds s ms) h).1 e
  asks-natural (need.IsNat ∷ ms) h e = sort_same-equal s Nat (and_parts (sort_same s Nat) (meets_all ds s ms) h).0

  natural-sort : (t : PatSort) → is_natural ns t ≡ true → sort_for s t ≡ Nat
  natural-sort of.S e = asks-natural ns met e
  natural-sort of.Nat e = refl
  natural-sort of.Int e = cc

  natural-same : (t : PatSort) → is_natural ns t ≡ true → sort_same (sort_for s t) Nat ≡ true
  natural-same t e = rw (natural-sort t e) refl

  whole-integral : (t : PatSort) → is_whole ns t ≡ true → is_integral (sort_for s t) ≡ true
  whole-integral of.S e = rw (asks-natural ns met e) refl
  whole-integral of.Nat e = refl
  whole-integral of.Int e = refl

  need_met-sound : (t : PatSort) (m : Need) → need_met ns t m ≡ true → meets ds (sort_for s t) m ≡ true
  need_met-sound t (need.Class c) e = kind_has-sound t c e
  need_met-sound t need.IsNat e = natural-same t e

  pub needs_met-sound : (t : PatSort) (ms : List Need) → needs_met ns t ms ≡ true → meets_all ds (sort_for s t) ms ≡ true
  needs_met-sound t [] e = refl
  needs_met-sound t (m ∷ ms) e = both (need_met ns t m) (needs_met ns t ms) _ _ (need_met-sound t m) (needs_met-sound t ms) e

  fits_place : (p : Place) (t u : PatSort) → kind_fits p t u ≡ true → place_fits p (sort_for s t) (sort_for s u) ≡ true
  fits_place Same t u e = rw (kind_same-equal u t e) (sort_same-self (sort_for s t))
  fits_place OfNat t u e = rw (kind_same-equal u of.Nat e) refl
  fits_place OfInt t u e = rw (kind_same-equal u of.Int e) refl

  fit_places : (ps : List Place) (t : PatSort) (us : List PatSort) → kinds_fit ps t us ≡ true → places_fit ps (sort_for s t) (map (sort_for s) us) ≡ true
  fit_places [] t us e = refl
  fit_places (p ∷ ps) t [] e = refl
  fit_places (p ∷ ps) t (u ∷ us) e = both (kind_fits p t u) (kinds_fit ps t us) _ _ (fits_place p t u) (fit_places ps t us) e

  serves-kind : (f : Sym) (t : PatSort) → kind_serves ns f t ≡ true → serves f (sort_for s t) ≡ true
  serves-kind NatSub t e = natural-same t e
  serves-kind IDiv t e = whole-integral t e
  serves-kind Mod t e = whole-integral t e
  serves-kind Gcd t e = natural-same t e
  serves-kind Lcm t e = natural-same t e
  serves-kind Fact t e = natural-same t e
  serves-kind Choose t e = natural-same t e
  serves-kind Fib t e = natural-same t e
  serves-kind _ t e = refl

  pub group_or_field : (t : PatSort) → (kind_has ns t Group || kind_has ns t Field) ≡ true → (has_class ds (sort_for s t) Group || has_class ds (sort_for s t) Field) ≡ true
  group_or_field t e = either (kind_has ns t Group) (kind_has ns t Field) _ _ (kind_has-sound t Group) (kind_has-sound t Field) e

  pub classes-kind : (f : Sym) (t : PatSort) → kind_has_classes ns f t ≡ true → has_classes ds f (sort_for s t) ≡ true
  classes-kind Add t e = kind_has-sound t AddMonoid e
  classes-kind Mul t e = kind_has-sound t Semigroup e
  classes-kind Neg t e = kind_has-sound t AddGroup e
  classes-kind Sub t e = kind_has-sound t AddGroup e
  classes-kind Inv t e = group_or_field t e
  classes-kind Div t e = group_or_field t e
  classes-kind Npow t e = kind_has-sound t Monoid e
  classes-kind Zpow t e = group_or_field t e
  classes-kind Nsmul t e = kind_has-sound t AddMonoid e
  classes-kind Zsmul t e = kind_has-sound t AddGroup e
  classes-kind Abs t e = both (kind_has ns t Ring) (kind_has ns t IsStrictOrderedRing) _ _ (kind_has-sound t Ring) (kind_has-sound t IsStrictOrderedRing) e
  classes-kind Min t e = kind_has-sound t LinearOrder e
  classes-kind Max t e = kind_has-sound t LinearOrder e
  classes-kind _ t e = refl

  -- a head that fits is well sorted
  pub head-good : (f : Sym) (t : PatSort) (us : List PatSort) → head_fits ns f t us ≡ true → head_mark ds f (sort_for s t) (map (sort_for s) us) ≡ Good
  head-good f t us e =
      let b = and_parts (is_built_in f && (nat_eq (length (places f)) (length us) && (kinds_fit (places f) t us && kind_serves ns f t))) (kind_has_classes ns f t) e in
      let a = and_parts (is_built_in f) (nat_eq (length (places f)) (length us) && (kinds_fit (places f) t us && kind_serves ns f t)) b.0 in
      let c = and_parts (nat_eq (length (places f)) (length us)) (kinds_fit (places f) t us && kind_serves ns f t) a.1 in
      let arguments : arguments_fit f (sort_for s t) (map (sort_for s) us) ≡ true =
      both (kinds_fit (places f) t us) (kind_serves ns f t) _ _ (fit_places (places f) t us) (serves-kind f t) c.1 in
      let many : nat_eq (length (places f)) (length (map (sort_for s) us)) ≡ true = rw (length-map_sorts s us) c.0 in
      let mark : built_in_mark ds f (sort_for s t) (map (sort_for s) us) ≡ Good = rw (many, arguments, classes-kind f t b.1) refl in
      worse-good (sort_mark ds (sort_for s t)) _ (kind_known t) (symbol-built_in ds f (sort_for s t) (map (sort_for s) us) a.0 ∙ mark)
