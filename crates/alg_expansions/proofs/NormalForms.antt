-- The normal form of a well sorted tree is well sorted, of the same sort, and its own normal form; it has the polynomial of
-- the prepared tree.
use Rattle.std.proofs.Common.{◌≡◌, ℕ, List, [], ◌∷◌, Bool, true, false, cond, refl, ap, ap₂, sym, subst, ◌∙◌, Option, Some, None}
use Rattle.std.specs.Prelude.{◌&&◌, ◌||◌}
use Rattle.std.proofs.lemmas.Bool.{and_parts}
use Rattle.alg_terms.specs.declared.sorts.Sort.{Sort}
use Rattle.alg_terms.specs.declared.symbols.Sym.{Sym}
use Rattle.alg_terms.specs.declared.symbols.Sym.TheVariants.{Add, Mul, Neg, Sub, Inv, Div, Npow}
use Rattle.alg_terms.specs.Tree.{Tree, Lit, Var, App, Trees, Nil, Cons, sort_of_tree}
use Rattle.alg_terms.specs.Order.{tree_cmp, sort_same}
use Rattle.alg_terms.proofs.OrderLaws.{sort_same-equal}
use Rattle.alg_law.specs.declared.classes.Class.TheVariants.{AddGroup, Group, Field, CharZero}
use Rattle.alg_law.specs.declared.marks.Mark.TheVariants.{Good}
use Rattle.alg_law.specs.Declarations.{Declaration}
use Rattle.alg_law.specs.Having.{has_class}
use Rattle.alg_law.proofs.HavingLaws.{has_class-all}
use Rattle.alg_law.specs.WellSorted.{sort_mark, head_mark, symbol_mark, built_in_mark, mark_of, marks_of, sorts_of, IsWellSorted, AreWellSorted}
use Rattle.alg_law.proofs.WellSortedLaws.{worse-good, worse-parts}
use Rattle.alg_sums.specs.Coefficients.{Coefficients}
use Rattle.alg_sums.specs.Monomial.{monomial_cmp}
use Rattle.alg_sums.specs.Sum.{AllTerms, negated}
use Rattle.alg_sums.proofs.TreeOrder.{tree_cmp-IsStrict}
use Rattle.alg_sums.proofs.Monomials.{monomial_cmp-IsStrict}
use Rattle.alg_sums.proofs.Normal.{normal_of-IsNormal}
use Rattle.alg_sums.proofs.Terms.{AllTerms-append, AllTerms-normal_of}
use Rattle.alg_expansions.specs.Setting.{Setting, setting_of}
use Rattle.alg_expansions.specs.Numerals.{numeral}
use Rattle.alg_expansions.specs.Closed.{closed_value}
use Rattle.alg_expansions.specs.Expansion.{atom, power_or, inverse_or, inverse_of, expansion, polynomial}
use Rattle.alg_expansions.specs.NormalTree.{binary, normal_tree}
use Rattle.alg_expansions.specs.NormalForm.{where_some, with_first, prepared_arguments, normal_form, prepared, all_prepared, normal_forms}
use Rattle.alg_expansions.proofs.NormalTrees.{expansion-normal_tree, polynomial-normal_tree}
use Rattle.alg_expansions.proofs.Terms.{IsAtom, IsTerm, sum_term, negated_terms, product_terms, to_power_terms, number_terms, atom_terms}
use Rattle.alg_expansions.proofs.WellSortedTrees.{built_in_parts, inverse-good}
use Rattle.alg_expansions.proofs.ClosedTrees.{closed_exact}
use Rattle.alg_expansions.proofs.KeptTrees.{IsKept, IsRing, kept_normal_tree}

module _ {C : Type 0} (r : Coefficients C) (ds : List Declaration) where
  abbrev k : Setting
  k = setting_of ds

  -- an atom of this sort that stays
  record IsSettled (s : Sort) (a : Tree) : Type 0 where
    atom : IsAtom r k a
    kept : IsKept r ds s a

  abbrev AreSettled : Sort → List (List (Tree × ℕ) × C) → Type 0
  AreSettled s = AllTerms (IsTerm r (k.is_exact s) (has_class ds s AddGroup) (IsSettled s))

  -- all atoms of the tree are settled
  abbrev HasSettled : Sort → Tree → Type 0
  HasSettled s t = AreSettled s (expansion r k t)

  record IsSound (t : Tree) : Type 0 where
    sort : sort_of_tree (normal_form r k t) ≡ sort_of_tree t
    good : IsWellSorted ds (normal_form r k t)
    again : normal_form r k (normal_form r k t) ≡ normal_form r k t
    kept : k.is_ring (sort_of_tree t) ≡ true → polynomial r k (normal_form r k t) ≡ polynomial r k (prepared r k t)
    inner : k.is_ring (sort_of_tree t) ≡ true → HasSettled (sort_of_tree t) (prepared r k t)
    outer : k.is_ring (sort_of_tree t) ≡ true → HasSettled (sort_of_tree t) (normal_form r k t)

  abbrev AreSound : Trees → Type 0
  AreSound Nil = Unit {0}
  AreSound (Cons t ts) = IsSound t × AreSound ts

  all_again : (ts : Trees) → AreSound ts → normal_forms r k (normal_forms r k ts) ≡ normal_forms r k ts
  all_again Nil h = refl
  all_again (Cons t ts) h = ap₂ Cons h.0.again (all_again ts h.1)

  all_sorts : (ts : Trees) → AreSound ts → sorts_of (normal_forms r k ts) ≡ sorts_of ts
  all_sorts Nil h = refl
  all_sorts (Cons t ts) h = ap₂ (λ s ss. s ∷ ss) h.0.sort (all_sorts ts h.1)

  all_good : (ts : Trees) → AreSound ts → AreWellSorted ds (normal_forms r k ts)
  all_good Nil h = refl
  all_good (Cons t ts) h = worse-good (mark_of ds (normal_form r k t)) (marks_of ds (normal_forms r k ts)) h.0.good (all_good ts h.1)

  -- a head over normal forms
  over_good : (f : Sym) (s : Sort) (ts : Trees) → head_mark ds f s (sorts_of ts) ≡ Good → AreSound ts → IsWellSorted ds (App f s (normal_forms r k ts))
  over_good f s ts w h = worse-good (head_mark ds f s (sorts_of (normal_forms r k ts))) (marks_of ds (normal_forms r k ts)) (subst (λ ss. head_mark ds f s ss ≡ Good) (sym (all_sorts ts h)) w) (all_good ts h)

  atom_settled : (s : Sort) (a : Tree) → IsAtom r k a → sort_of_tree a ≡ s → IsWellSorted ds a → prepared r k a ≡ a → AreSettled s (atom r a)
  atom_settled s a i e w c = atom_terms r (k.is_exact s) (has_class ds s AddGroup) (IsSettled s) a (record { atom = i; kept = record { sort = e; good = w; stays = c } })

  -- ---- the normal tree
  module _ (s : Sort) (i : IsRing r ds s) where
    of_normal_tree : (p : List (List (Tree × ℕ) × C)) → AreSettled s p → HasSettled s (normal_tree r s p)
    of_normal_tree [] h = number_terms r (k.is_exact s) (has_class ds s AddGroup) (IsSettled s) 0
    of_normal_tree (t ∷ ts) h = subst (AreSettled s) (sym (expansion-normal_tree r k s (has_class ds s AddGroup) (IsSettled s) (λ a j. j.atom) t ts h)) h

    polynomial_settled : (t : Tree) → HasSettled s t → AreSettled s (polynomial r k t)
    polynomial_settled t h = AllTerms-normal_of r (monomial_cmp tree_cmp) (IsTerm r (k.is_exact s) (has_class ds s AddGroup) (IsSettled s)) (sum_term r (k.is_exact s) (has_class ds s AddGroup) (IsSettled s)) (expansion r k t) h

    kept_tree : (p : List (List (Tree × ℕ) × C)) → AreSettled s p → IsKept r ds s (normal_tree r s p)
    kept_tree p h = kept_normal_tree r ds s i (IsSettled s) (λ a j. j.kept) p h

    -- a tree that is prepared in nothing is its own normal form where its list spells it
    stays_normal : (t : Tree) → sort_of_tree t ≡ s → prepared r k t ≡ t → normal_tree r s (polynomial r k t) ≡ t → normal_form r k t ≡ t
    stays_normal (Lit u n) e c h = refl
    stays_normal (Var d u) e c h = refl
    stays_normal (App f u ts) e c h =
        ap (λ b. cond b (normal_tree r u (polynomial r k (prepared r k (App f u ts)))) (App f u (normal_forms r k ts))) (ap k.is_ring e ∙ i.ring)
        ∙ ap₂ (λ v t. normal_tree r v (polynomial r k t)) e c
        ∙ h

    tree_kept : (t : Tree) → HasSettled s t → polynomial r k (normal_tree r s (polynomial r k t)) ≡ polynomial r k t
    tree_kept t h = polynomial-normal_tree r k s (has_class ds s AddGroup) (IsSettled s) (λ a j. j.atom) (polynomial r k t) (normal_of-IsNormal r (monomial_cmp-IsStrict tree_cmp tree_cmp-IsStrict) (expansion r k t)) (polynomial_settled t h)

    tree_again : (t : Tree) → HasSettled s t → normal_form r k (normal_tree r s (polynomial r k t)) ≡ normal_tree r s (polynomial r k t)
    tree_again t h =
        let p = polynomial r k t in
        let g = polynomial_settled t h in
        let f = kept_tree p g in
        stays_normal (normal_tree r s p) f.sort f.stays
        (ap (normal_tree r s) (tree_kept t h))

    -- a compound in a ring whose prepared tree has settled atoms
    ring_sound : (f : Sym) (ts : Trees) → HasSettled s (prepared r k (App f s ts)) → IsSound (App f s ts)
    ring_sound f ts h =
        let t = prepared r k (App f s ts) in
        let p = polynomial r k t in
        let e : normal_tree r s p ≡ normal_form r k (App f s ts) = sym (ap (λ b. cond b (normal_tree r s p) (App f s (normal_forms r k ts))) i.ring) in
        let g = polynomial_settled t h in
        let n = kept_tree p g in
        record {
          sort = subst (λ u. sort_of_tree u ≡ s) e n.sort;
          good = subst (IsWellSorted ds) e n.good;
          again = subst (λ u. normal_form r k u ≡ u) e (tree_again t h);
          kept = λ j. subst (λ u. polynomial r k u ≡ p) e (tree_kept t h);
          inner = λ j. h;
          outer = λ j. subst (HasSettled s) e (of_normal_tree p g);
        }

    -- ---- the prepared tree of a compound, by its head
    inner_at : (a : Tree) → sort_same (sort_of_tree a) s ≡ true → IsSound a → HasSettled s (prepared r k a)
    inner_at a e h =
        let q : sort_of_tree a ≡ s = sort_same-equal (sort_of_tree a) s e in
        subst (λ u. HasSettled u (prepared r k a)) q (h.inner (ap k.is_ring q ∙ i.ring))

    outer_at : (a : Tree) → sort_same (sort_of_tree a) s ≡ true → IsSound a → HasSettled s (normal_form r k a)
    outer_at a e h =
        let q : sort_of_tree a ≡ s = sort_same-equal (sort_of_tree a) s e in
        subst (λ u. HasSettled u (normal_form r k a)) q (h.outer (ap k.is_ring q ∙ i.ring))

    -- an inverse of a normal form; a field has negation
    inverse_settled : (b : Tree) (o : Option C) → closed_value r k b ≡ o → ((c : C) → o ≡ Some c → (k.is_exact s ≡ true) × (has_class ds s AddGroup ≡ true)) → IsWellSorted ds (App Inv s (Cons b Nil)) → normal_form r k b ≡ b → AreSettled s (inverse_of r k s b)
    inverse_settled b (Some c) e g w h =
        let i = g c refl in
        subst (λ o. AreSettled s (inverse_or r (App Inv s (Cons b Nil)) o)) (sym e) ((tt, record { whole = λ j. let x : true ≡ false = sym i.0 ∙ j in cc; positive = λ j. let x : true ≡ false = sym i.1 ∙ j in cc }), tt)
    inverse_settled b None e g w h =
        let a = App Inv s (Cons b Nil) in
        let q : inverse_of r k s b ≡ atom r a = ap (inverse_or r a) e in
        subst (AreSettled s) (sym q) (atom_settled s a q refl w (ap (λ t. App Inv s (Cons t Nil)) h))

    field_negates : k.is_exact s ≡ true → has_class ds s AddGroup ≡ true
    field_negates e = has_class-all ds s Field AddGroup refl (and_parts (has_class ds s Field) (has_class ds s CharZero) e).0

    exact_sort : (b : Tree) (c : C) → sort_of_tree b ≡ s → IsWellSorted ds b → closed_value r k b ≡ Some c → (k.is_exact s ≡ true) × (has_class ds s AddGroup ≡ true)
    exact_sort b c q w e =
        let x = subst (λ u. k.is_exact u ≡ true) q (closed_exact r ds b c w e) in
        (x, field_negates x)

    inverse_at : (b : Tree) → (has_class ds s Group || has_class ds s Field) ≡ true → sort_same (sort_of_tree b) s ≡ true → IsSound b → AreSettled s (inverse_of r k s (normal_form r k b))
    inverse_at b c e h =
        inverse_settled (normal_form r k b) (closed_value r k (normal_form r k b)) refl (λ x q. exact_sort (normal_form r k b) x (h.sort ∙ sort_same-equal (sort_of_tree b) s e) h.good q)
        (inverse-good ds s i.known (normal_form r k b) c (h.sort ∙ sort_same-equal (sort_of_tree b) s e) h.good)
        h.again

    -- a power of settled terms, or one that is an atom
    power_settled : (a e : Tree) (o : Option ℕ) → numeral e ≡ o → HasSettled s a → (o ≡ None → (normal_form r k a ≡ a) × ((normal_form r k e ≡ e) × IsWellSorted ds (binary Npow s a e))) → HasSettled s (binary Npow s a e)
    power_settled a e (Some n) q h u = subst (λ o. AreSettled s (power_or r (binary Npow s a e) (expansion r k a) o)) (sym q) (to_power_terms r (k.is_exact s) (has_class ds s AddGroup) (IsSettled s) (expansion r k a) n h)
    power_settled a e None q h u =
        let t = binary Npow s a e in
        let x : expansion r k t ≡ atom r t = ap (power_or r t (expansion r k a)) q in
        subst (AreSettled s) (sym x)
        (atom_settled s t x refl (u refl).1.1
        (ap (λ o. App Npow s (where_some o (with_first (all_prepared r k (Cons a (Cons e Nil))) (Cons a (Cons e Nil))) (normal_forms r k (Cons a (Cons e Nil))))) q ∙ ap₂ (binary Npow s) (u refl).0 (u refl).1.0))

    power_changed : (a e : Tree) (o : Option ℕ) → numeral e ≡ o → sort_same (sort_of_tree a) s ≡ true → IsSound a → IsSound e → IsWellSorted ds (binary Npow s (normal_form r k a) (normal_form r k e)) → HasSettled s (App Npow s (where_some o (Cons (prepared r k a) (Cons e Nil)) (Cons (normal_form r k a) (Cons (normal_form r k e) Nil))))
    power_changed a e (Some n) q f h j w = power_settled (prepared r k a) e (Some n) q (inner_at a f h) (λ x. cc)
    power_changed a e None q f h j w = power_settled (normal_form r k a) (normal_form r k e) (numeral (normal_form r k e)) refl (outer_at a f h) (λ x. (h.again, (j.again, w)))

    changed_settled : (f : Sym) (ts : Trees) → head_mark ds f s (sorts_of ts) ≡ Good → AreSound ts → HasSettled s (App f s (prepared_arguments f ts (all_prepared r k ts) (normal_forms r k ts)))
    changed_settled Add (Cons a (Cons b Nil)) w h =
        let c = built_in_parts ds Add s (sort_of_tree a ∷ sort_of_tree b ∷ []) (worse-parts (sort_mark ds s) (built_in_mark ds Add s (sort_of_tree a ∷ sort_of_tree b ∷ [])) w).1 in
        let e = and_parts (sort_same (sort_of_tree a) s) (sort_same (sort_of_tree b) s && true) c.0 in
        let f = and_parts (sort_same (sort_of_tree b) s) true e.1 in
        AllTerms-append (IsTerm r (k.is_exact s) (has_class ds s AddGroup) (IsSettled s)) (expansion r k (prepared r k a)) (expansion r k (prepared r k b)) (inner_at a e.0 h.0) (inner_at b f.0 h.1.0)
    changed_settled Sub (Cons a (Cons b Nil)) w h =
        let c = built_in_parts ds Sub s (sort_of_tree a ∷ sort_of_tree b ∷ []) (worse-parts (sort_mark ds s) (built_in_mark ds Sub s (sort_of_tree a ∷ sort_of_tree b ∷ [])) w).1 in
        let e = and_parts (sort_same (sort_of_tree a) s) (sort_same (sort_of_tree b) s && true) c.0 in
        let f = and_parts (sort_same (sort_of_tree b) s) true e.1 in
        AllTerms-append (IsTerm r (k.is_exact s) (has_class ds s AddGroup) (IsSettled s)) (expansion r k (prepared r k a)) (negated r (expansion r k (prepared r k b))) (inner_at a e.0 h.0) (negated_terms r (k.is_exact s) (has_class ds s AddGroup) (IsSettled s) (expansion r k (prepared r k b)) c.1 (inner_at b f.0 h.1.0))
    changed_settled Mul (Cons a (Cons b Nil)) w h =
        let c = built_in_parts ds Mul s (sort_of_tree a ∷ sort_of_tree b ∷ []) (worse-parts (sort_mark ds s) (built_in_mark ds Mul s (sort_of_tree a ∷ sort_of_tree b ∷ [])) w).1 in
        let e = and_parts (sort_same (sort_of_tree a) s) (sort_same (sort_of_tree b) s && true) c.0 in
        let f = and_parts (sort_same (sort_of_tree b) s) true e.1 in
        product_terms r (k.is_exact s) (has_class ds s AddGroup) (IsSettled s) (expansion r k (prepared r k a)) (expansion r k (prepared r k b)) (inner_at a e.0 h.0) (inner_at b f.0 h.1.0)
    changed_settled Neg (Cons a Nil) w h =
        let c = built_in_parts ds Neg s (sort_of_tree a ∷ []) (worse-parts (sort_mark ds s) (built_in_mark ds Neg s (sort_of_tree a ∷ [])) w).1 in
        let e = and_parts (sort_same (sort_of_tree a) s) true c.0 in
        negated_terms r (k.is_exact s) (has_class ds s AddGroup) (IsSettled s) (expansion r k (prepared r k a)) c.1 (inner_at a e.0 h.0)
    changed_settled Npow (Cons a (Cons x Nil)) w h =
        let c = built_in_parts ds Npow s (sort_of_tree a ∷ sort_of_tree x ∷ []) (worse-parts (sort_mark ds s) (built_in_mark ds Npow s (sort_of_tree a ∷ sort_of_tree x ∷ [])) w).1 in
        let e = and_parts (sort_same (sort_of_tree a) s) _ c.0 in
        power_changed a x (numeral x) refl e.0 h.0 h.1.0 (over_good Npow s (Cons a (Cons x Nil)) w h)
    changed_settled Inv (Cons b Nil) w h =
        let c = built_in_parts ds Inv s (sort_of_tree b ∷ []) (worse-parts (sort_mark ds s) (built_in_mark ds Inv s (sort_of_tree b ∷ [])) w).1 in
        let e = and_parts (sort_same (sort_of_tree b) s) true c.0 in
        inverse_at b c.1 e.0 h.0
    changed_settled Div (Cons a (Cons b Nil)) w h =
        let c = built_in_parts ds Div s (sort_of_tree a ∷ sort_of_tree b ∷ []) (worse-parts (sort_mark ds s) (built_in_mark ds Div s (sort_of_tree a ∷ sort_of_tree b ∷ [])) w).1 in
        let e = and_parts (sort_same (sort_of_tree a) s) (sort_same (sort_of_tree b) s && true) c.0 in
        let f = and_parts (sort_same (sort_of_tree b) s) true e.1 in
        product_terms r (k.is_exact s) (has_class ds s AddGroup) (IsSettled s) (expansion r k (prepared r k a)) (inverse_of r k s (normal_form r k b)) (inner_at a e.0 h.0) (inverse_at b c.1 f.0 h.1.0)
    changed_settled f ts w h = atom_settled s (App f s (normal_forms r k ts)) refl refl (over_good f s ts w h) (ap (App f s) (all_again ts h))

  -- elsewhere the arguments alone are put in normal form
  other_sound : (f : Sym) (s : Sort) (ts : Trees) → k.is_ring s ≡ false → head_mark ds f s (sorts_of ts) ≡ Good → AreSound ts → IsSound (App f s ts)
  other_sound f s ts i w h =
      let c : (us : Trees) → normal_form r k (App f s us) ≡ App f s (normal_forms r k us) = λ us. ap (λ b. cond b (normal_tree r s (polynomial r k (prepared r k (App f s us)))) (App f s (normal_forms r k us))) i in
      record {
        sort = subst (λ u. sort_of_tree u ≡ s) (sym (c ts)) refl;
        good = subst (IsWellSorted ds) (sym (c ts)) (over_good f s ts w h);
        kept = λ j. let e : false ≡ true = sym i ∙ j in cc;
        again = ap (normal_form r k) (c ts) ∙ c (normal_forms r k ts) ∙ ap (App f s) (all_again ts h) ∙ sym (c ts);
        inner = λ j. let e : false ≡ true = sym i ∙ j in cc;
        outer = λ j. let e : false ≡ true = sym i ∙ j in cc;
      }

  compound_sound : (f : Sym) (s : Sort) (ts : Trees) (b : Bool) → k.is_ring s ≡ b → head_mark ds f s (sorts_of ts) ≡ Good → AreSound ts → IsSound (App f s ts)
  compound_sound f s ts true i w h =
      let j : IsRing r ds s = record { known = (worse-parts (sort_mark ds s) (symbol_mark ds f s (sorts_of ts)) w).0; ring = i } in
      ring_sound s j f ts (changed_settled s j f ts w h)
  compound_sound f s ts false i w h = other_sound f s ts i w h

  mutual
    sound : (t : Tree) → IsWellSorted ds t → IsSound t
    sound (Lit s n) w = record {
      sort = refl;
      good = w;
      again = refl;
      kept = λ i. refl;
      inner = λ i. number_terms r (k.is_exact s) (has_class ds s AddGroup) (IsSettled s) n;
      outer = λ i. number_terms r (k.is_exact s) (has_class ds s AddGroup) (IsSettled s) n;
    }
    sound (Var d s) w = record {
      sort = refl;
      good = w;
      again = refl;
      kept = λ i. refl;
      inner = λ i. atom_settled s (Var d s) refl refl w refl;
      outer = λ i. atom_settled s (Var d s) refl refl w refl;
    }
    sound (App f s ts) w =
        let h = worse-parts (head_mark ds f s (sorts_of ts)) (marks_of ds ts) w in
        compound_sound f s ts (k.is_ring s) refl h.0 (sounds ts h.1)

    sounds : (ts : Trees) → AreWellSorted ds ts → AreSound ts
    sounds Nil w = tt
    sounds (Cons t ts) w =
        let h = worse-parts (mark_of ds t) (marks_of ds ts) w in
        (sound t h.0, sounds ts h.1)

  -- the normal form of a normal form is itself
  pub normal_form-again : (t : Tree) → IsWellSorted ds t → normal_form r k (normal_form r k t) ≡ normal_form r k t
  normal_form-again t w = (sound t w).again

  pub normal_form-sort : (t : Tree) → IsWellSorted ds t → sort_of_tree (normal_form r k t) ≡ sort_of_tree t
  normal_form-sort t w = (sound t w).sort

  pub normal_form-good : (t : Tree) → IsWellSorted ds t → IsWellSorted ds (normal_form r k t)
  normal_form-good t w = (sound t w).good

  -- its polynomial is that of the prepared tree
  pub normal_form-polynomial : (t : Tree) → IsWellSorted ds t → k.is_ring (sort_of_tree t) ≡ true → polynomial r k (normal_form r k t) ≡ polynomial r k (prepared r k t)
  normal_form-polynomial t w i = (sound t w).kept i
