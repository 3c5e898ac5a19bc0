-- The terms of a well sorted tree: over atoms that are their own only terms, with coefficients that its sort has.
use Rattle.std.proofs.Common.{◌≡◌, ℕ, List, true, false, refl, ap, sym, subst, ◌∙◌, Option, Some, None}
use Rattle.std.proofs.lemmas.Bool.{and_parts}
use Rattle.alg_terms.specs.declared.sorts.Sort.{Sort}
use Rattle.alg_terms.specs.declared.symbols.Sym.TheVariants.{Add, Mul, Neg, Sub, Inv, Div, Npow}
use Rattle.alg_terms.specs.Tree.{Tree, Lit, Var, App, Nil, Cons, sort_of_tree}
use Rattle.alg_law.specs.declared.classes.Class.TheVariants.{AddGroup, Field, CharZero}
use Rattle.alg_law.specs.Declarations.{Declaration}
use Rattle.alg_law.specs.Having.{has_class}
use Rattle.alg_law.proofs.HavingLaws.{has_class-all}
use Rattle.alg_law.specs.WellSorted.{IsWellSorted}
use Rattle.alg_sums.specs.Coefficients.{Coefficients}
use Rattle.alg_sums.specs.Sum.{AllTerms, negated}
use Rattle.alg_sums.proofs.Terms.{AllTerms-append}
use Rattle.alg_expansions.specs.Setting.{Setting, setting_of}
use Rattle.alg_expansions.specs.Numerals.{numeral}
use Rattle.alg_expansions.specs.Closed.{closed_value}
use Rattle.alg_expansions.specs.Expansion.{atom, power_or, inverse_or, inverse_of, expansion}
use Rattle.alg_expansions.proofs.Terms.{IsAtom, IsTerm, negated_terms, product_terms, to_power_terms, number_terms, atom_terms}
use Rattle.alg_expansions.proofs.WellSortedTrees.{one_part, base_part, two_parts}
use Rattle.alg_expansions.proofs.ClosedTrees.{closed_exact}

module _ {C : Type 0} (r : Coefficients C) (ds : List Declaration) where
  abbrev k : Setting
  k = setting_of ds

  -- terms over atoms, with coefficients that this sort has
  abbrev pub AreTermsOf : Sort → List (List (Tree × ℕ) × C) → Type 0
  AreTermsOf s = AllTerms (IsTerm r (k.is_exact s) (has_class ds s AddGroup) (IsAtom r k))

  module _ (s : Sort) where
    power_terms : (a e : Tree) (o : Option ℕ) → numeral e ≡ o → AreTermsOf s (expansion r k a) → AreTermsOf s (expansion r k (App Npow s (Cons a (Cons e Nil))))
    power_terms a e (Some n) q h = subst (λ o. AreTermsOf s (power_or r (App Npow s (Cons a (Cons e Nil))) (expansion r k a) o)) (sym q) (to_power_terms r (k.is_exact s) (has_class ds s AddGroup) (IsAtom r k) (expansion r k a) n h)
    power_terms a e None q h =
        let t = App Npow s (Cons a (Cons e Nil)) in
        let x : expansion r k t ≡ atom r t = ap (power_or r t (expansion r k a)) q in
        subst (AreTermsOf s) (sym x) (atom_terms r (k.is_exact s) (has_class ds s AddGroup) (IsAtom r k) t x)

    exact_negates : k.is_exact s ≡ true → has_class ds s AddGroup ≡ true
    exact_negates e = has_class-all ds s Field AddGroup refl (and_parts (has_class ds s Field) (has_class ds s CharZero) e).0

    inverse_terms : (b : Tree) (o : Option C) → closed_value r k b ≡ o → sort_of_tree b ≡ s → IsWellSorted ds b → AreTermsOf s (inverse_of r k s b)
    inverse_terms b (Some c) e q w =
        let i : k.is_exact s ≡ true = subst (λ u. k.is_exact u ≡ true) q (closed_exact r ds b c w e) in
        let j : has_class ds s AddGroup ≡ true = exact_negates i in
        subst (λ o. AreTermsOf s (inverse_or r (App Inv s (Cons b Nil)) o)) (sym e) ((tt, record { whole = λ x. let y : true ≡ false = sym i ∙ x in cc; positive = λ x. let y : true ≡ false = sym j ∙ x in cc }), tt)
    inverse_terms b None e q w =
        let a = App Inv s (Cons b Nil) in
        let x : inverse_of r k s b ≡ atom r a = ap (inverse_or r a) e in
        subst (AreTermsOf s) (sym x) (atom_terms r (k.is_exact s) (has_class ds s AddGroup) (IsAtom r k) a x)

  at_sort : (s t : Sort) (p : List (List (Tree × ℕ) × C)) → t ≡ s → AreTermsOf t p → AreTermsOf s p
  at_sort s t p e h = subst (λ u. AreTermsOf u p) e h

  own_terms : (t : Tree) → IsWellSorted ds t → AreTermsOf (sort_of_tree t) (expansion r k t)
  own_terms (Lit s n) w = number_terms r (k.is_exact s) (has_class ds s AddGroup) (IsAtom r k) n
  own_terms (Var d s) w = atom_terms r (k.is_exact s) (has_class ds s AddGroup) (IsAtom r k) (Var d s) refl
  own_terms (App Add s (Cons a (Cons b Nil))) w =
      let g = two_parts ds Add s a b refl w in
      AllTerms-append (IsTerm r (k.is_exact s) (has_class ds s AddGroup) (IsAtom r k)) (expansion r k a) (expansion r k b) (at_sort s (sort_of_tree a) (expansion r k a) g.left (own_terms a g.left_good)) (at_sort s (sort_of_tree b) (expansion r k b) g.right (own_terms b g.right_good))
  own_terms (App Sub s (Cons a (Cons b Nil))) w =
      let g = two_parts ds Sub s a b refl w in
      AllTerms-append (IsTerm r (k.is_exact s) (has_class ds s AddGroup) (IsAtom r k)) (expansion r k a) (negated r (expansion r k b)) (at_sort s (sort_of_tree a) (expansion r k a) g.left (own_terms a g.left_good)) (negated_terms r (k.is_exact s) (has_class ds s AddGroup) (IsAtom r k) (expansion r k b) g.classes (at_sort s (sort_of_tree b) (expansion r k b) g.right (own_terms b g.right_good)))
  own_terms (App Mul s (Cons a (Cons b Nil))) w =
      let g = two_parts ds Mul s a b refl w in
      product_terms r (k.is_exact s) (has_class ds s AddGroup) (IsAtom r k) (expansion r k a) (expansion r k b) (at_sort s (sort_of_tree a) (expansion r k a) g.left (own_terms a g.left_good)) (at_sort s (sort_of_tree b) (expansion r k b) g.right (own_terms b g.right_good))
  own_terms (App Div s (Cons a (Cons b Nil))) w =
      let g = two_parts ds Div s a b refl w in
      product_terms r (k.is_exact s) (has_class ds s AddGroup) (IsAtom r k) (expansion r k a) (inverse_of r k s b) (at_sort s (sort_of_tree a) (expansion r k a) g.left (own_terms a g.left_good)) (inverse_terms s b (closed_value r k b) refl g.right g.right_good)
  own_terms (App Npow s (Cons a (Cons e Nil))) w =
      let g = base_part ds s a e w in
      power_terms s a e (numeral e) refl (at_sort s (sort_of_tree a) (expansion r k a) g.sort (own_terms a g.good))
  own_terms (App Neg s (Cons a Nil)) w =
      let g = one_part ds Neg s a refl w in
      negated_terms r (k.is_exact s) (has_class ds s AddGroup) (IsAtom r k) (expansion r k a) g.classes (at_sort s (sort_of_tree a) (expansion r k a) g.sort (own_terms a g.good))
  own_terms (App Inv s (Cons a Nil)) w =
      let g = one_part ds Inv s a refl w in
      inverse_terms s a (closed_value r k a) refl g.sort g.good
  own_terms (App f s ts) w = atom_terms r (k.is_exact s) (has_class ds s AddGroup) (IsAtom r k) (App f s ts) refl

  -- the terms of a well sorted tree
  pub expansion_terms : (s : Sort) (t : Tree) → IsWellSorted ds t → sort_of_tree t ≡ s → AreTermsOf s (expansion r k t)
  expansion_terms s t w e = at_sort s (sort_of_tree t) (expansion r k t) e (own_terms t w)
