-- Well sorted trees in a ring: what a normal tree is made of, and what a well sorted compound tells.
use Rattle.std.specs.Prelude.{◌≡◌, ℕ, Bool, true, false, ◌&&◌, ◌||◌, if◌then◌else◌, nat_eq, List, [], ◌∷◌, length, refl}
use Rattle.std.proofs.Common.{sym, subst}
use Rattle.std.proofs.lemmas.Bool.{and_parts}
use Rattle.alg_terms.specs.declared.sorts.Sort.{Sort}
use Rattle.alg_terms.specs.declared.sorts.Sort.TheVariants.{Nat}
use Rattle.alg_terms.specs.declared.symbols.Sym.{Sym}
use Rattle.alg_terms.specs.declared.symbols.Sym.TheVariants.{Neg, Sub, Inv, Div, Npow}
use Rattle.alg_terms.specs.Tree.{Tree, Lit, App, Nil, Cons, sort_of_tree}
use Rattle.alg_terms.specs.Order.{sort_same}
use Rattle.alg_terms.proofs.OrderLaws.{sort_same-self, sort_same-equal}
use Rattle.alg_terms.specs.declared.symbols.Place.{Place}
use Rattle.alg_terms.specs.declared.symbols.Place.TheVariants.{Same, OfNat}
use Rattle.alg_terms.specs.Symbols.{places, arguments_fit, places_fit, serves}
use Rattle.alg_law.specs.declared.classes.Class.TheVariants.{Semiring, AddGroup, Group, Field}
use Rattle.alg_law.specs.declared.marks.Mark.{Mark}
use Rattle.alg_law.specs.declared.marks.Mark.TheVariants.{Good, BadSort}
use Rattle.alg_law.specs.Declarations.{Declaration}
use Rattle.alg_law.specs.Having.{has_class}
use Rattle.alg_law.specs.WellSorted.{worse, sort_mark, class_mark, head_mark, built_in_mark, has_classes, mark_of, IsWellSorted}
use Rattle.alg_law.proofs.WellSortedLaws.{worse-good, worse-parts, literal-good, semiring-one}
use Rattle.alg_expansions.specs.NormalTree.{binary}

or_right : (a b : Bool) → b ≡ true → (a || b) ≡ true
or_right true b e = refl
or_right false b e = e

class_good : (b : Bool) → class_mark b ≡ Good → b ≡ true
class_good true e = refl
class_good false e = cc

fits_good : (b c : Bool) → (if b then class_mark c else BadSort) ≡ Good → (b ≡ true) × (c ≡ true)
fits_good true c e = (refl, class_good c e)
fits_good false c e = cc

-- the arguments of a well sorted built-in compound fit, and the sort has the classes
pub built_in_parts : (ds : List Declaration) (f : Sym) (s : Sort) (ts : List Sort) → built_in_mark ds f s ts ≡ Good → (places_fit (places f) s ts ≡ true) × (has_classes ds f s ≡ true)
built_in_parts ds f s ts e =
    let h = fits_good (nat_eq (length (places f)) (length ts) && arguments_fit f s ts) (has_classes ds f s) e in
    let a = and_parts (nat_eq (length (places f)) (length ts)) (arguments_fit f s ts) h.0 in
    ((and_parts (places_fit (places f) s ts) (serves f s) a.1).0, h.1)

module _ (ds : List Declaration) (s : Sort) (known : sort_mark ds s ≡ Good) where
  one_head : (f : Sym) (t : Sort) → head_mark ds f s (s ∷ []) ≡ Good → t ≡ s → head_mark ds f s (t ∷ []) ≡ Good
  one_head f t h e = subst (λ u. head_mark ds f s (u ∷ []) ≡ Good) (sym e) h

  two_head : (f : Sym) (t u v : Sort) → head_mark ds f s (s ∷ v ∷ []) ≡ Good → t ≡ s → u ≡ v → head_mark ds f s (t ∷ u ∷ []) ≡ Good
  two_head f t u v h e i = subst (λ w. head_mark ds f s (w ∷ u ∷ []) ≡ Good) (sym e) (subst (λ w. head_mark ds f s (s ∷ w ∷ []) ≡ Good) (sym i) h)

  one_good : (f : Sym) (a : Tree) → head_mark ds f s (s ∷ []) ≡ Good → sort_of_tree a ≡ s → IsWellSorted ds a → IsWellSorted ds (App f s (Cons a Nil))
  one_good f a h e g = worse-good (head_mark ds f s (sort_of_tree a ∷ [])) (worse (mark_of ds a) Good) (one_head f (sort_of_tree a) h e) (worse-good (mark_of ds a) Good g refl)

  two_good : (f : Sym) (a b : Tree) (v : Sort) → head_mark ds f s (s ∷ v ∷ []) ≡ Good → sort_of_tree a ≡ s → sort_of_tree b ≡ v → IsWellSorted ds a → IsWellSorted ds b → IsWellSorted ds (binary f s a b)
  two_good f a b v h e i g j =
      worse-good (head_mark ds f s (sort_of_tree a ∷ sort_of_tree b ∷ [])) (worse (mark_of ds a) (worse (mark_of ds b) Good)) (two_head f (sort_of_tree a) (sort_of_tree b) v h e i)
      (worse-good (mark_of ds a) (worse (mark_of ds b) Good) g (worse-good (mark_of ds b) Good j refl))

  negation_head : has_class ds s AddGroup ≡ true → head_mark ds Neg s (s ∷ []) ≡ Good
  negation_head g = rw (known, sort_same-self s, g) refl

  difference_head : has_class ds s AddGroup ≡ true → head_mark ds Sub s (s ∷ s ∷ []) ≡ Good
  difference_head g = rw (known, sort_same-self s, g) refl

  power_head : has_class ds s Semiring ≡ true → head_mark ds Npow s (s ∷ Nat ∷ []) ≡ Good
  power_head r = let m = semiring-one ds s known r in rw (known, sort_same-self s, m) refl

  inverse_head : (has_class ds s Group || has_class ds s Field) ≡ true → head_mark ds Inv s (s ∷ []) ≡ Good
  inverse_head g = rw (known, sort_same-self s, g) refl

  quotient_head : has_class ds s Field ≡ true → head_mark ds Div s (s ∷ s ∷ []) ≡ Good
  quotient_head g = let h = or_right (has_class ds s Group) (has_class ds s Field) g in rw (known, sort_same-self s, h) refl

  pub negation-good : (a : Tree) → has_class ds s AddGroup ≡ true → sort_of_tree a ≡ s → IsWellSorted ds a → IsWellSorted ds (App Neg s (Cons a Nil))
  negation-good a g e h = one_good Neg a (negation_head g) e h

  pub inverse-good : (a : Tree) → (has_class ds s Group || has_class ds s Field) ≡ true → sort_of_tree a ≡ s → IsWellSorted ds a → IsWellSorted ds (App Inv s (Cons a Nil))
  inverse-good a g e h = one_good Inv a (inverse_head g) e h

  pub difference-good : (a b : Tree) → has_class ds s AddGroup ≡ true → sort_of_tree a ≡ s → sort_of_tree b ≡ s → IsWellSorted ds a → IsWellSorted ds b → IsWellSorted ds (binary Sub s a b)
  difference-good a b g e i h j = two_good Sub a b s (difference_head g) e i h j

  pub power-good : (a : Tree) (n : ℕ) → has_class ds s Semiring ≡ true → sort_of_tree a ≡ s → IsWellSorted ds a → IsWellSorted ds (binary Npow s a (Lit Nat n))
  power-good a n r e h = two_good Npow a (Lit Nat n) Nat (power_head r) e refl h (literal-good ds Nat refl refl n)

  pub quotient-good : (n d : ℕ) → has_class ds s Semiring ≡ true → has_class ds s Field ≡ true → IsWellSorted ds (binary Div s (Lit s n) (Lit s d))
  quotient-good n d r f = two_good Div (Lit s n) (Lit s d) s (quotient_head f) refl refl (literal-good ds s known r n) (literal-good ds s known r d)

-- what a well sorted compound tells of its parts

pub record HasOnePart (ds : List Declaration) (f : Sym) (s : Sort) (a : Tree) : Type 0 where
  pub sort : sort_of_tree a ≡ s
  pub good : IsWellSorted ds a
  pub known : sort_mark ds s ≡ Good
  pub classes : has_classes ds f s ≡ true

pub record HasTwoParts (ds : List Declaration) (f : Sym) (s : Sort) (a b : Tree) : Type 0 where
  pub left : sort_of_tree a ≡ s
  pub right : sort_of_tree b ≡ s
  pub left_good : IsWellSorted ds a
  pub right_good : IsWellSorted ds b
  pub known : sort_mark ds s ≡ Good
  pub classes : has_classes ds f s ≡ true

module _ (ds : List Declaration) where
  -- the first part has the sort of the whole, whatever the others
  first_of : (f : Sym) (s : Sort) (a : Tree) (qs : List Place) (us : List Sort) (m : Mark) → places f ≡ Same ∷ qs → worse (worse (sort_mark ds s) (built_in_mark ds f s (sort_of_tree a ∷ us))) (worse (mark_of ds a) m) ≡ Good → HasOnePart ds f s a × (places_fit qs s us ≡ true) × (m ≡ Good)
  first_of f s a qs us m e w =
      let h = worse-parts (worse (sort_mark ds s) (built_in_mark ds f s (sort_of_tree a ∷ us))) (worse (mark_of ds a) m) w in
      let i = worse-parts (sort_mark ds s) (built_in_mark ds f s (sort_of_tree a ∷ us)) h.0 in
      let c = built_in_parts ds f s (sort_of_tree a ∷ us) i.1 in
      let p : (sort_same (sort_of_tree a) s && places_fit qs s us) ≡ true = subst (λ ps. places_fit ps s (sort_of_tree a ∷ us) ≡ true) e c.0 in
      let q = and_parts (sort_same (sort_of_tree a) s) (places_fit qs s us) p in
      let g = worse-parts (mark_of ds a) m h.1 in
      (record { sort = sort_same-equal (sort_of_tree a) s q.0; good = g.0; known = i.0; classes = c.1 }, q.1, g.1)

  pub one_part : (f : Sym) (s : Sort) (a : Tree) → places f ≡ Same ∷ [] → worse (worse (sort_mark ds s) (built_in_mark ds f s (sort_of_tree a ∷ []))) (worse (mark_of ds a) Good) ≡ Good → HasOnePart ds f s a
  one_part f s a e w = (first_of f s a [] [] Good e w).0

  -- the base of a power
  pub base_part : (s : Sort) (a n : Tree) → IsWellSorted ds (App Npow s (Cons a (Cons n Nil))) → HasOnePart ds Npow s a
  base_part s a n w = (first_of Npow s a (OfNat ∷ []) (sort_of_tree n ∷ []) (worse (mark_of ds n) Good) refl w).0

  pub two_parts : (f : Sym) (s : Sort) (a b : Tree) → places f ≡ Same ∷ Same ∷ [] → worse (worse (sort_mark ds s) (built_in_mark ds f s (sort_of_tree a ∷ sort_of_tree b ∷ []))) (worse (mark_of ds a) (worse (mark_of ds b) Good)) ≡ Good → HasTwoParts ds f s a b
  two_parts f s a b e w =
      let h = first_of f s a (Same ∷ []) (sort_of_tree b ∷ []) (worse (mark_of ds b) Good) e w in
      let q = and_parts (sort_same (sort_of_tree b) s) true h.1 in
      record {
        left = h.0.sort;
        right = sort_same-equal (sort_of_tree b) s q.0;
        left_good = h.0.good;
        right_good = (worse-parts (mark_of ds b) Good h.2).0;
        known = h.0.known;
        classes = h.0.classes;
      }
