-- The numbers of trees, one after another.
use Rattle.std.proofs.Common.{◌≡◌, ℕ, suc, ◌<◌, ◌≤◌, List, [], ◌∷◌, ◌++◌, length, get_or, refl, ap, sym, ◌∙◌, subst, arith, ◌⊎◌, inl, inr, length-append, All, Bool, true, false}
use Rattle.std.specs.Prelude.{◌≢◌}
use Rattle.std.proofs.Math.ListN.{get_or-append}
use Rattle.std.proofs.Math.Seq.{get_or-append_seam}
use Rattle.std.proofs.lemmas.Bool.{cases_lt}
use Rattle.std.proofs.lemmas.List.Elements.{All-head, All-tail}
use Rattle.alg_terms.specs.declared.sorts.Sort.{Sort}
use Rattle.alg_terms.specs.declared.sorts.Sort.TheVariants.{Nat}
use Rattle.alg_terms.specs.declared.symbols.Sym.{Sym}
use Rattle.alg_terms.specs.declared.symbols.Sym.TheVariants.{Add, Mul, Neg, Sub, Inv, Div, Npow, Zpow, Nsmul, Zsmul, Abs, Min, Max, NatSub, IDiv, Mod, Gcd, Lcm, Fact, Choose, Fib, Apply}
use Rattle.alg_terms.specs.Tree.{Tree, Lit, App, of_list}
use Rattle.alg_expr.specs.declared.ids.ExprId.{ExprId}
use Rattle.alg_expr.specs.Ids.{tree_of, trees_at}
use Rattle.alg_expansions.specs.Setting.{Setting}
use Rattle.alg_ring_range.specs.Numbers.{Numbers, numbers, all_numbers, over, atom}
use Rattle.alg_ring_range.specs.Found.{IsFound, AreFound, ArePartsFound, HasParts, absent}
use Rattle.alg_ring_range.specs.Marks.{AreWanted}
use Rattle.alg_ring_range.specs.declared.rows.Found.{Found}

-- every symbol makes an atom over another number of parts than its own
over_none : (f : Sym) (xs : List Numbers) → length xs ≢ 1 → length xs ≢ 2 → over f xs ≡ atom
over_none Add [] h i = refl
over_none Add (x ∷ []) h i = refl
over_none Add (x ∷ y ∷ []) h i = absurd (i refl)
over_none Add (x ∷ y ∷ z ∷ xs) h i = refl
over_none Mul [] h i = refl
over_none Mul (x ∷ []) h i = refl
over_none Mul (x ∷ y ∷ []) h i = absurd (i refl)
over_none Mul (x ∷ y ∷ z ∷ xs) h i = refl
over_none Neg [] h i = refl
over_none Neg (x ∷ []) h i = absurd (h refl)
over_none Neg (x ∷ y ∷ xs) h i = refl
over_none Sub [] h i = refl
over_none Sub (x ∷ []) h i = refl
over_none Sub (x ∷ y ∷ []) h i = absurd (i refl)
over_none Sub (x ∷ y ∷ z ∷ xs) h i = refl
over_none Inv [] h i = refl
over_none Inv (x ∷ []) h i = absurd (h refl)
over_none Inv (x ∷ y ∷ xs) h i = refl
over_none Div [] h i = refl
over_none Div (x ∷ []) h i = refl
over_none Div (x ∷ y ∷ []) h i = absurd (i refl)
over_none Div (x ∷ y ∷ z ∷ xs) h i = refl
over_none Npow [] h i = refl
over_none Npow (x ∷ []) h i = refl
over_none Npow (x ∷ y ∷ []) h i = absurd (i refl)
over_none Npow (x ∷ y ∷ z ∷ xs) h i = refl
over_none Zpow xs h i = refl
over_none Nsmul xs h i = refl
over_none Zsmul xs h i = refl
over_none Abs xs h i = refl
over_none Min xs h i = refl
over_none Max xs h i = refl
over_none NatSub xs h i = refl
over_none IDiv xs h i = refl
over_none Mod xs h i = refl
over_none Gcd xs h i = refl
over_none Lcm xs h i = refl
over_none Fact xs h i = refl
over_none Choose xs h i = refl
over_none Fib xs h i = refl
over_none (Apply j) xs h i = refl

all_numbers-length : (k : Setting) (trees : List Tree) (args : List ExprId) → length (all_numbers k (of_list (trees_at trees args))) ≡ length args
all_numbers-length k trees [] = refl
all_numbers-length k trees (a ∷ args) = ap suc (all_numbers-length k trees args)

module _ (k : Setting) (trees : List Tree) (found : List Found) (e : ExprId) (f : Sym) (s : Sort) (args : List ExprId) (is : tree_of trees e ≡ App f s (of_list (trees_at trees args))) where
  pub node_else : (r : Found) → length args ≢ 1 → length args ≢ 2 → IsFound r atom → IsFound r (numbers k (tree_of trees e))
  node_else r h i g =
      let n = all_numbers-length k trees args in
      let same : numbers k (tree_of trees e) ≡ atom = ap (numbers k) is ∙ over_none f (all_numbers k (of_list (trees_at trees args))) (λ p. h (sym n ∙ p)) (λ p. i (sym n ∙ p)) in
      subst (IsFound r) (sym same) g

  pub node_one : (r : Found) (a : ExprId) → args ≡ a ∷ [] → ArePartsFound k trees found args → ((x : Numbers) → IsFound (get_or found a.index absent) x → IsFound r (over f (x ∷ []))) → IsFound r (numbers k (tree_of trees e))
  node_one r a h parts g =
      let p : ArePartsFound k trees found (a ∷ []) = subst (ArePartsFound k trees found) h parts in
      let same : numbers k (tree_of trees e) ≡ over f (numbers k (tree_of trees a) ∷ []) = ap (numbers k) is ∙ ap (λ es. over f (all_numbers k (of_list (trees_at trees es)))) h in
      subst (IsFound r) (sym same) (g (numbers k (tree_of trees a)) (All-head (λ x. IsFound (get_or found x.index absent) (numbers k (tree_of trees x))) a [] p.each))

  pub node_two : (r : Found) (a b : ExprId) → args ≡ a ∷ b ∷ [] → ArePartsFound k trees found args → ((x y : Numbers) → IsFound (get_or found a.index absent) x → IsFound (get_or found b.index absent) y → IsFound r (over f (x ∷ y ∷ []))) → IsFound r (numbers k (tree_of trees e))
  node_two r a b h parts g =
      let P : ExprId → Type 0 = λ x. IsFound (get_or found x.index absent) (numbers k (tree_of trees x)) in
      let p : ArePartsFound k trees found (a ∷ b ∷ []) = subst (ArePartsFound k trees found) h parts in
      let same : numbers k (tree_of trees e) ≡ over f (numbers k (tree_of trees a) ∷ numbers k (tree_of trees b) ∷ []) = ap (numbers k) is ∙ ap (λ es. over f (all_numbers k (of_list (trees_at trees es)))) h in
      subst (IsFound r) (sym same) (g (numbers k (tree_of trees a)) (numbers k (tree_of trees b)) (All-head P a (b ∷ []) p.each) (All-head P b [] (All-tail P a (b ∷ []) p.each)))

-- the tree after those that are found

pub next_found : (k : Setting) (trees : List Tree) (wanted : List Bool) (found : List Found) (f : Found) → AreFound k trees wanted found → length found < length trees
    → (get_or wanted (length found) false ≡ true → IsFound f (numbers k (get_or trees (length found) (Lit Nat 0)))) → AreFound k trees wanted (found ++ f ∷ [])
next_found k trees wanted found f h l w = record {
  within = omega (arith, l, length-append found (f ∷ []));
  each = λ i m. at i m (cases_lt i (length found));
}
  where
    at : (i : ℕ) → i < length (found ++ f ∷ []) → (i < length found) ⊎ (length found ≤ i) → get_or wanted i false ≡ true → IsFound (get_or (found ++ f ∷ []) i absent) (numbers k (get_or trees i (Lit Nat 0)))
    at i m (inl n) want = rw (get_or-append found (f ∷ []) absent i n) (h.each i n want)
    at i m (inr n) want =
        let e : i ≡ length found = omega (arith, m, n, length-append found (f ∷ [])) in
        let want' : get_or wanted (length found) false ≡ true = rw (← e) want in
        rw (e, get_or-append_seam found f [] absent) (w want')

-- all parts of a wanted tree come before it, so they are found

pub next_parts : (k : Setting) (trees : List Tree) (wanted : List Bool) (found : List Found) (e : ExprId) → AreWanted trees wanted → AreFound k trees wanted found → e.index ≡ length found → get_or wanted e.index false ≡ true → HasParts k trees found e
next_parts k trees wanted found e w h n want f s args is below =
    let parts = w.parts e f s args want is below in
    record {
      within = λ i d l. omega (arith, n, below i d l);
      each = λ i d l. h.each (get_or args i d).index (omega (arith, n, below i d l)) (parts i d l);
    }

-- all trees are found
pub all_parts : (k : Setting) (trees : List Tree) (wanted : List Bool) (found : List Found) (e : ExprId) → AreWanted trees wanted → AreFound k trees wanted found → length found ≡ length trees → e.index < length trees → get_or wanted e.index false ≡ true → HasParts k trees found e
all_parts k trees wanted found e w h all here want f s args is below =
    let parts = w.parts e f s args want is below in
    record {
      within = λ i d l. omega (arith, all, here, below i d l);
      each = λ i d l. h.each (get_or args i d).index (omega (arith, all, here, below i d l)) (parts i d l);
    }

-- the parts come before

pub one_below : (args : List ExprId) (a : ExprId) (n : ℕ) → args ≡ a ∷ [] → All (λ x. x.index < n) args → a.index < n
one_below args a n e h = All-head (λ x. x.index < n) a [] (subst (λ es. All (λ x. x.index < n) es) e h)

pub first_below : (args : List ExprId) (a b : ExprId) (n : ℕ) → args ≡ a ∷ b ∷ [] → All (λ x. x.index < n) args → a.index < n
first_below args a b n e h = All-head (λ x. x.index < n) a (b ∷ []) (subst (λ es. All (λ x. x.index < n) es) e h)

pub second_below : (args : List ExprId) (a b : ExprId) (n : ℕ) → args ≡ a ∷ b ∷ [] → All (λ x. x.index < n) args → b.index < n
second_below args a b n e h = All-head (λ x. x.index < n) b [] (All-tail (λ x. x.index < n) a (b ∷ []) (subst (λ es. All (λ x. x.index < n) es) e h))

pub ruleset below = (one_below, first_below, second_below)
