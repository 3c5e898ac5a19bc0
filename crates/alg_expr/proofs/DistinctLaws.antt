-- Ids of trees that are all different.
use Rattle.std.specs.Prelude.{◌≡◌, List, [], ◌∷◌, refl, All}
use Rattle.std.specs.Prelude.{◌↔◌}
use Rattle.std.specs.declared.cmp.Ordering.TheVariants.{Equal}
use Rattle.alg_terms.specs.Order.{tree_cmp}
use Rattle.alg_terms.proofs.OrderLaws.{tree_cmp-equal, tree_cmp-self}
use Rattle.std.proofs.Common.{sym, subst, arith, inl, inr}
use Rattle.std.proofs.lemmas.Bool.{cases_lt}
use Rattle.std.proofs.lemmas.List.Elements.{All-head, All-tail}
use Rattle.alg_terms.specs.declared.sorts.Sort.TheVariants.{Nat}
use Rattle.alg_terms.specs.Tree.{Tree, Lit}
use Rattle.alg_expr.specs.declared.ids.ExprId.{ExprId}
use Rattle.alg_expr.specs.Ids.{tree_of, IsIn, trees_at}
use Rattle.alg_expr.specs.Distinct.{AreDistinct}

-- ids of one tree are one id
pub same_id-from_tree : (ts : List Tree) (a b : ExprId) → AreDistinct ts → IsIn ts a → IsIn ts b → tree_of ts a ≡ tree_of ts b → a ≡ b
same_id-from_tree ts a b d p q e =
    elim (cases_lt a.index b.index) [
      | inl l ↦ absurd (d a.index b.index (Lit Nat 0) l q e)
      | inr l ↦
          elim (cases_lt b.index a.index) [
            | inl m ↦ absurd (d b.index a.index (Lit Nat 0) m p (sym e))
            | inr m ↦ let r : a.index ≡ b.index = omega arith in λ i. record { index = r i }
          ]
    ]

pub same_ids-from_trees : (ts : List Tree) (es fs : List ExprId) → AreDistinct ts → All (IsIn ts) es → All (IsIn ts) fs → trees_at ts es ≡ trees_at ts fs → es ≡ fs
same_ids-from_trees ts [] [] d h k e = refl
same_ids-from_trees ts [] (y ∷ ys) d h k e = cc
same_ids-from_trees ts (x ∷ xs) [] d h k e = cc
same_ids-from_trees ts (x ∷ xs) (y ∷ ys) d h k e =
    let p : tree_of ts x ≡ tree_of ts y = cc in
    let q : trees_at ts xs ≡ trees_at ts ys = cc in
    let r : x ≡ y = same_id-from_tree ts x y d (All-head (IsIn ts) x xs h) (All-head (IsIn ts) y ys k) p in
    let s : xs ≡ ys = same_ids-from_trees ts xs ys d (All-tail (IsIn ts) x xs h) (All-tail (IsIn ts) y ys k) q in
    cc

-- ids of one order are one id
pub same_id-from_order : (ts : List Tree) (a b : ExprId) → AreDistinct ts → IsIn ts a → IsIn ts b → (tree_cmp (tree_of ts a) (tree_of ts b) ≡ Equal) ↔ (a ≡ b)
same_id-from_order ts a b d p q =
    (λ e. same_id-from_tree ts a b d p q (tree_cmp-equal (tree_of ts a) (tree_of ts b) e), λ e. subst (λ (x : ExprId). tree_cmp (tree_of ts a) (tree_of ts x) ≡ Equal) e (tree_cmp-self (tree_of ts a)))
