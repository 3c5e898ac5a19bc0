-- The work of trees, one after another.
use Rattle.std.proofs.Common.{◌≡◌, ℕ, ◌<◌, ◌≤◌, List, [], ◌∷◌, ◌++◌, length, get_or, refl, ap, sym, ◌∙◌, subst, arith, ◌⊎◌, inl, inr, length-append, Bool, true, false}
use Rattle.std.specs.Prelude.{◌≢◌}
use Rattle.std.proofs.Math.ListN.{get_or-append}
use Rattle.std.proofs.Math.Seq.{get_or-append_seam}
use Rattle.std.proofs.lemmas.Bool.{cases_lt}
use Rattle.std.proofs.lemmas.List.Elements.{All-head, All-tail}
use Rattle.alg_terms.specs.declared.sorts.Sort.{Sort}
use Rattle.alg_terms.specs.declared.sorts.Sort.TheVariants.{Nat}
use Rattle.alg_terms.specs.declared.symbols.Sym.{Sym}
use Rattle.alg_terms.specs.declared.symbols.Sym.TheVariants.{Add, Mul, Neg, Sub, Inv, Div, Npow, Zpow, Nsmul, Zsmul, Abs, Min, Max, NatSub, IDiv, Mod, Gcd, Lcm, Fact, Choose, Fib, Apply}
use Rattle.alg_terms.specs.Tree.{Tree, Trees, Lit, App, Cons, Nil, of_list}
use Rattle.alg_expr.specs.declared.ids.ExprId.{ExprId}
use Rattle.alg_expr.specs.Ids.{tree_of, trees_at}
use Rattle.alg_expansions.specs.Setting.{Setting}
use Rattle.alg_ring_range.specs.Numbers.{Numbers, numbers}
use Rattle.alg_ring_range.specs.Found.{IsFound, ArePartsFound, absent}
use Rattle.alg_ring_range.specs.Marks.{AreWanted}
use Rattle.alg_ring_range.specs.Work.{Counts, IsWork, AreWorks, ArePartsWorks, AreCounts, HasWorks, work, work_over, leaf, no_work}
use Rattle.alg_ring_range.specs.declared.rows.Found.{Found}
use Rattle.alg_ring_range.specs.declared.work.Work.{Work}

over_none : (o : Counts) (f : Sym) (s : Sort) → work_over o f s Nil [] [] ≡ leaf
over_none o Add s = refl
over_none o Mul s = refl
over_none o Neg s = refl
over_none o Sub s = refl
over_none o Inv s = refl
over_none o Div s = refl
over_none o Npow s = refl
over_none o Zpow s = refl
over_none o Nsmul s = refl
over_none o Zsmul s = refl
over_none o Abs s = refl
over_none o Min s = refl
over_none o Max s = refl
over_none o NatSub s = refl
over_none o IDiv s = refl
over_none o Mod s = refl
over_none o Gcd s = refl
over_none o Lcm s = refl
over_none o Fact s = refl
over_none o Choose s = refl
over_none o Fib s = refl
over_none o (Apply j) s = refl

over_many : (o : Counts) (f : Sym) (s : Sort) (a b c : Tree) (ts : Trees) (ns : List Numbers) (x y z : Work) (xs : List Work) → work_over o f s (Cons a (Cons b (Cons c ts))) ns (x ∷ y ∷ z ∷ xs) ≡ leaf
over_many o Add s a b c ts ns x y z xs = refl
over_many o Mul s a b c ts ns x y z xs = refl
over_many o Neg s a b c ts ns x y z xs = refl
over_many o Sub s a b c ts ns x y z xs = refl
over_many o Inv s a b c ts ns x y z xs = refl
over_many o Div s a b c ts ns x y z xs = refl
over_many o Npow s a b c ts ns x y z xs = refl
over_many o Zpow s a b c ts ns x y z xs = refl
over_many o Nsmul s a b c ts ns x y z xs = refl
over_many o Zsmul s a b c ts ns x y z xs = refl
over_many o Abs s a b c ts ns x y z xs = refl
over_many o Min s a b c ts ns x y z xs = refl
over_many o Max s a b c ts ns x y z xs = refl
over_many o NatSub s a b c ts ns x y z xs = refl
over_many o IDiv s a b c ts ns x y z xs = refl
over_many o Mod s a b c ts ns x y z xs = refl
over_many o Gcd s a b c ts ns x y z xs = refl
over_many o Lcm s a b c ts ns x y z xs = refl
over_many o Fact s a b c ts ns x y z xs = refl
over_many o Choose s a b c ts ns x y z xs = refl
over_many o Fib s a b c ts ns x y z xs = refl
over_many o (Apply j) s a b c ts ns x y z xs = refl

module _ (o : Counts) (k : Setting) (trees : List Tree) (found : List Found) (works : List Work) (e : ExprId) (f : Sym) (s : Sort) where
  pub work_else : (args : List ExprId) (r : Work) → tree_of trees e ≡ App f s (of_list (trees_at trees args)) → length args ≢ 1 → length args ≢ 2 → IsWork r leaf → IsWork r (work o k (tree_of trees e))
  work_else [] r is h i g = subst (IsWork r) (sym (ap (work o k) is ∙ over_none o f s)) g
  work_else (a ∷ []) r is h i g = absurd (h refl)
  work_else (a ∷ b ∷ []) r is h i g = absurd (i refl)
  work_else (a ∷ b ∷ c ∷ rest) r is h i g =
      subst (IsWork r) (sym (ap (work o k) is ∙ over_many o f s (tree_of trees a) (tree_of trees b) (tree_of trees c) (of_list (trees_at trees rest)) _ _ _ _ _)) g

  pub work_one : (args : List ExprId) (r : Work) (a : ExprId) → tree_of trees e ≡ App f s (of_list (trees_at trees args)) → args ≡ a ∷ [] → ArePartsFound k trees found args → ArePartsWorks o k trees works args
      → ((t : Tree) (x : Numbers) (w : Work) → IsFound (get_or found a.index absent) x → IsWork (get_or works a.index no_work) w → IsWork r (work_over o f s (Cons t Nil) (x ∷ []) (w ∷ []))) → IsWork r (work o k (tree_of trees e))
  work_one args r a is h parts done g =
      let p : ArePartsFound k trees found (a ∷ []) = subst (ArePartsFound k trees found) h parts in
      let q : ArePartsWorks o k trees works (a ∷ []) = subst (ArePartsWorks o k trees works) h done in
      let same : work o k (tree_of trees e) ≡ work_over o f s (Cons (tree_of trees a) Nil) (numbers k (tree_of trees a) ∷ []) (work o k (tree_of trees a) ∷ []) = ap (work o k) is ∙ ap (λ es. work o k (App f s (of_list (trees_at trees es)))) h in
      subst (IsWork r) (sym same)
      (g (tree_of trees a) (numbers k (tree_of trees a)) (work o k (tree_of trees a))
      (All-head (λ x. IsFound (get_or found x.index absent) (numbers k (tree_of trees x))) a [] p.each)
      (All-head (λ x. IsWork (get_or works x.index no_work) (work o k (tree_of trees x))) a [] q.each))

  pub work_two : (args : List ExprId) (r : Work) (a b : ExprId) → tree_of trees e ≡ App f s (of_list (trees_at trees args)) → args ≡ a ∷ b ∷ [] → ArePartsFound k trees found args → ArePartsWorks o k trees works args
      → ((x y : Numbers) (v w : Work) → IsFound (get_or found b.index absent) y → IsWork (get_or works a.index no_work) v → IsWork (get_or works b.index no_work) w → IsWork r (work_over o f s (Cons (tree_of trees a) (Cons (tree_of trees b) Nil)) (x ∷ y ∷ []) (v ∷ w ∷ []))) → IsWork r (work o k (tree_of trees e))
  work_two args r a b is h parts done g =
      let P : ExprId → Type 0 = λ x. IsFound (get_or found x.index absent) (numbers k (tree_of trees x)) in
      let Q : ExprId → Type 0 = λ x. IsWork (get_or works x.index no_work) (work o k (tree_of trees x)) in
      let p : ArePartsFound k trees found (a ∷ b ∷ []) = subst (ArePartsFound k trees found) h parts in
      let q : ArePartsWorks o k trees works (a ∷ b ∷ []) = subst (ArePartsWorks o k trees works) h done in
      let same : work o k (tree_of trees e) ≡ work o k (App f s (of_list (trees_at trees (a ∷ b ∷ [])))) = ap (work o k) is ∙ ap (λ es. work o k (App f s (of_list (trees_at trees es)))) h in
      subst (IsWork r) (sym same)
      (g (numbers k (tree_of trees a)) (numbers k (tree_of trees b)) (work o k (tree_of trees a)) (work o k (tree_of trees b))
      (All-head P b [] (All-tail P a (b ∷ []) p.each)) (All-head Q a (b ∷ []) q.each) (All-head Q b [] (All-tail Q a (b ∷ []) q.each)))

-- the tree after those that are found

pub next_work : (o : Counts) (k : Setting) (trees : List Tree) (wanted : List Bool) (works : List Work) (w : Work) → AreWorks o k trees wanted works → length works < length trees
    → (get_or wanted (length works) false ≡ true → IsWork w (work o k (get_or trees (length works) (Lit Nat 0)))) → AreWorks o k trees wanted (works ++ w ∷ [])
next_work o k trees wanted works w h l g = record {
  within = omega (arith, l, length-append works (w ∷ []));
  each = λ i m. at i m (cases_lt i (length works));
}
  where
    at : (i : ℕ) → i < length (works ++ w ∷ []) → (i < length works) ⊎ (length works ≤ i) → get_or wanted i false ≡ true → IsWork (get_or (works ++ w ∷ []) i no_work) (work o k (get_or trees i (Lit Nat 0)))
    at i m (inl n) want = rw (get_or-append works (w ∷ []) no_work i n) (h.each i n want)
    at i m (inr n) want =
        let e : i ≡ length works = omega (arith, m, n, length-append works (w ∷ [])) in
        let want' : get_or wanted (length works) false ≡ true = rw (← e) want in
        rw (e, get_or-append_seam works w [] no_work) (g want')

pub next_parts_works : (o : Counts) (k : Setting) (trees : List Tree) (wanted : List Bool) (works : List Work) (e : ExprId) → AreWanted trees wanted → AreWorks o k trees wanted works → e.index ≡ length works → get_or wanted e.index false ≡ true → HasWorks o k trees works e
next_parts_works o k trees wanted works e w h n want f s args is below =
    let parts = w.parts e f s args want is below in
    record {
      within = λ i d l. omega (arith, n, below i d l);
      each = λ i d l. h.each (get_or args i d).index (omega (arith, n, below i d l)) (parts i d l);
    }

pub steps_at : (o : Counts) (trees : List Tree) (counts : List ℕ) (steps : List Work) (e : ExprId) (f : Sym) (s : Sort) (args : List ExprId) (a b : ExprId) → AreCounts o trees counts steps → e.index < length trees → tree_of trees e ≡ App f s (of_list (trees_at trees args)) → args ≡ a ∷ b ∷ []
    → IsWork (get_or steps e.index no_work) (o.steps (App f s (Cons (tree_of trees a) (Cons (tree_of trees b) Nil))))
steps_at o trees counts steps e f s args a b told here is h =
    let same : tree_of trees e ≡ App f s (Cons (tree_of trees a) (Cons (tree_of trees b) Nil)) = is ∙ ap (λ es. App f s (of_list (trees_at trees es))) h in
    subst (λ t. IsWork (get_or steps e.index no_work) (o.steps t)) same (told.steps_are e.index here)

-- what is found of a tree that is wanted
pub found_work : (o : Counts) (k : Setting) (trees : List Tree) (wanted flags : List Bool) (works items : List Work) (e : ExprId) → AreWorks o k trees wanted works → wanted ≡ flags → items ≡ works → length works ≡ length trees → e.index < length trees → get_or flags e.index false ≡ true → IsWork (get_or items e.index no_work) (work o k (tree_of trees e))
found_work o k trees wanted flags works items e h f g all here want = rw g (h.each e.index (omega (arith, all, here)) (rw f want))
