-- The order of two trees, one look at a time.
use Rattle.std.proofs.Common.{◌≡◌, ℕ, ◌<◌, ◌≤◌, ◌+◌, suc, List, length, get_or, drop, All, refl, ap, sym, ◌∙◌, subst, add-one, Less, Greater}
use Rattle.std.proofs.Math.Seq.{drop-cons}
use Rattle.std.proofs.Math.ListN.{drop_of_length-le}
use Rattle.std.proofs.lemmas.List.Elements.{Contains-get_or}
use Rattle.std.specs.Ordering.{ordering_then}
use Rattle.std.specs.declared.cmp.Ordering.{Ordering}
use Rattle.std.specs.declared.cmp.Ordering.TheVariants.{Equal}
use Rattle.alg_terms.specs.declared.sorts.Sort.{Sort}
use Rattle.alg_terms.specs.declared.symbols.Sym.{Sym}
use Rattle.alg_terms.specs.Tree.{Tree, App, of_list}
use Rattle.alg_terms.specs.Order.{tree_cmp, trees_cmp, sym_cmp, sort_cmp}
use Rattle.alg_terms.proofs.OrderLaws.{tree_cmp-self, tree_cmp-equal}
use Rattle.alg_expr.specs.declared.ids.ExprId.{ExprId}
use Rattle.alg_expr.specs.Ids.{tree_of, IsIn, trees_at}
use Rattle.alg_expr.specs.Distinct.{AreDistinct}
use Rattle.alg_expr.proofs.DistinctLaws.{same_id-from_tree}
use Rattle.alg_expr.specs.Steps.{AreApart, HaveOrder}

then-decided : (o p : Ordering) → (o ≡ Equal → ⊥) → ordering_then o p ≡ o
then-decided Less p h = refl
then-decided Equal p h = absurd (h refl)
then-decided Greater p h = refl

module _ (ts : List Tree) (xs ys : List ExprId) (i : ℕ) (d : ExprId) (o : Ordering) where
  -- equal parts are passed
  pub order-skip : i < length xs → i < length ys → get_or xs i d ≡ get_or ys i d
      → trees_cmp (of_list (trees_at ts (drop i xs))) (of_list (trees_at ts (drop i ys))) ≡ o
      → trees_cmp (of_list (trees_at ts (drop (i + 1) xs))) (of_list (trees_at ts (drop (i + 1) ys))) ≡ o
  order-skip l m e h =
      let k = rw (drop-cons xs i d l, drop-cons ys i d m, e, tree_cmp-self (tree_of ts (get_or ys i d))) at h in
      rw add-one k

  -- the first parts that differ decide
  pub AreApart-at : All (IsIn ts) xs → All (IsIn ts) ys → AreDistinct ts → i < length xs → i < length ys → ((get_or xs i d).index ≡ (get_or ys i d).index → ⊥)
      → trees_cmp (of_list (trees_at ts (drop i xs))) (of_list (trees_at ts (drop i ys))) ≡ trees_cmp (of_list (trees_at ts xs)) (of_list (trees_at ts ys))
      → AreApart ts xs ys (get_or xs i d) (get_or ys i d)
  AreApart-at xs_in ys_in distinct l m differ h =
      let x = get_or xs i d in
      let y = get_or ys i d in
      let differs : tree_cmp (tree_of ts x) (tree_of ts y) ≡ Equal → ⊥ =
      λ e. differ (ap (λ (z : ExprId). z.index) (same_id-from_tree ts x y distinct (xs_in i d l) (ys_in i d m) (tree_cmp-equal _ _ e))) in
      record {
        left = Contains-get_or xs i d l;
        right = Contains-get_or ys i d m;
        order = sym (then-decided (tree_cmp (tree_of ts x) (tree_of ts y)) (trees_cmp (of_list (trees_at ts (drop (suc i) xs))) (of_list (trees_at ts (drop (suc i) ys)))) differs) ∙ (rw (drop-cons xs i d l, drop-cons ys i d m) at h);
        differ = differs;
      }

  pub order-ends_right : i < length xs → length ys ≤ i → trees_cmp (of_list (trees_at ts (drop i xs))) (of_list (trees_at ts (drop i ys))) ≡ o → Greater ≡ o
  order-ends_right l m h = rw (drop-cons xs i d l, drop_of_length-le ys m) at h

  pub order-ends_left : length xs ≤ i → i < length ys → trees_cmp (of_list (trees_at ts (drop i xs))) (of_list (trees_at ts (drop i ys))) ≡ o → Less ≡ o
  order-ends_left l m h = rw (drop_of_length-le xs l, drop-cons ys i d m) at h

-- parts that decide the order of two compounds
pub HaveOrder-parts : (ts : List Tree) (a b : ExprId) (f g : Sym) (s t : Sort) (xs ys : List ExprId) (x y : ExprId)
    → sym_cmp f g ≡ Equal → tree_of ts a ≡ App f s (of_list (trees_at ts xs)) → tree_of ts b ≡ App g t (of_list (trees_at ts ys))
    → All (λ e. e.index < a.index) xs → All (λ e. e.index < b.index) ys → AreApart ts xs ys x y → HaveOrder ts a b x y
HaveOrder-parts ts a b f g s t xs ys x y same p q h k apart =
    record {
      left = subst (λ (e : ExprId). e.index < a.index) apart.left.2 (h apart.left.0 x apart.left.1);
      right = subst (λ (e : ExprId). e.index < b.index) apart.right.2 (k apart.right.0 y apart.right.1);
      order = rw (p, q, same, ← apart.order) (sym (then-decided (tree_cmp (tree_of ts x) (tree_of ts y)) (sort_cmp s t) apart.differ));
    }
