-- The cases of a sum: what is asked of the trees alone, and what is said of the forms.
use Rattle.std.proofs.Common.{◌≡◌, ℕ, ◌+◌, List, refl, ap, ◌∙◌}
use Rattle.alg_terms.specs.declared.sorts.Sort.{Sort}
use Rattle.alg_terms.specs.Tree.{Tree, Lit, sum_tree, product_tree}
use Rattle.alg_expr.specs.declared.ids.ExprId.{ExprId}
use Rattle.alg_expr.specs.Ids.{tree_of}
use Rattle.alg_sums.specs.Ratio.{Ratio}
use Rattle.alg_sums.specs.Rational.{rational}
use Rattle.alg_horner.specs.Form.{Form, constant, sum}
use Rattle.alg_build.specs.Book.{Book, Proves}
use Rattle.alg_build.specs.Rewriting.{Stands}
use Rattle.alg_form_trees.specs.FormTree.{form_tree}
use Rattle.alg_form_trees.proofs.FormTrees.{constant_is, sum_is}
use Rattle.alg_node_sums.specs.declared.lines.Derived.{Derived}
use Rattle.alg_node_sums.specs.declared.lines.Pair.{Pair}
use Rattle.alg_node_sums.specs.Deriving.{Derives, ArePair}
use Rattle.alg_shown_forms.specs.declared.shown.Told.{Told}
use Rattle.alg_shown_forms.specs.Showing.{IsSumLine}
use Rattle.alg_form_sums.specs.Cases.{IsBeside, IsBesideSum, IsAheadSum, AreNodes}

own : (b : Book) (s : Sort) (e : ExprId) (t : Tree) → Stands b s e t → Stands b s e (tree_of b.trees e)
own b s e t h = record { here = h.here; tree = refl; sorted = rw h.tree h.sorted; sort = rw h.tree h.sort }

module _ (leaf : Ratio → Tree) (b : Book) (s : Sort) (names : List Tree) (k : ℕ) where
  -- the line for the sum of two forms, over the ids of their trees
  pub told_derives : (q t : Form Ratio) (x y : ExprId) (r : Told) → Stands b s x (form_tree leaf s names k q) → Stands b s y (form_tree leaf s names k t) → IsSumLine leaf b s names k q t r
      → Derives b s (record { tree = r.shown.tree; line = r.line }) (sum_tree s (tree_of b.trees x) (tree_of b.trees y)) (tree_of b.trees r.shown.tree)
  told_derives q t x y r h m l = record { stands = own b s r.shown.tree _ l.shown; line = rw (h.tree, m.tree, l.shown.tree) l.line; sort = refl }

  pub pair_is : (p o : Form Ratio) (i : ℕ) (q t : Form Ratio) (pair : Pair) (rest other : ExprId) (inner later : Told) → AreNodes leaf b s names k p o i q t pair rest other inner later → ArePair b s pair
  pair_is p o i q t pair rest other inner later h = record {
    first = own b s pair.first _ h.first;
    second = own b s pair.second _ h.second;
    power = own b s pair.power _ h.power;
    left = rw (h.first.tree, h.power.tree) h.left;
    right = rw (h.second.tree, h.power.tree) h.right;
  }

  -- the line that the inner forms of two nodes have the sum 0
  pub none_line : (p o : Form Ratio) (i : ℕ) (q t : Form Ratio) (pair : Pair) (rest other : ExprId) (inner later : Told) → AreNodes leaf b s names k p o i q t pair rest other inner later
      → inner.shown.form ≡ constant rational.nil → leaf rational.nil ≡ Lit s 0 → Proves b inner.line (sum_tree s (tree_of b.trees pair.first) (tree_of b.trees pair.second)) (Lit s 0)
  none_line p o i q t pair rest other inner later h e z =
      let w : form_tree leaf s names k inner.shown.form ≡ Lit s 0 = ap (form_tree leaf s names k) e ∙ constant_is rational leaf s names k rational.nil ∙ z in
      rw (h.first.tree, h.second.tree) (rw w at h.inner_line.line)

module _ (leaf : Ratio → Tree) (a b : Book) (s : Sort) (names : List Tree) (k : ℕ) where
  pub beside_done : (p : Form Ratio) (i : ℕ) (q t : Form Ratio) (product rest other : ExprId) (later r : Told) (made : Derived) → IsBeside leaf a s names k p i q t product rest other later
      → Derives b s made (sum_tree s (sum_tree s (tree_of a.trees product) (tree_of a.trees rest)) (tree_of a.trees other)) (sum_tree s (tree_of a.trees product) (tree_of a.trees later.shown.tree))
      → r.shown.tree ≡ made.tree → r.line ≡ made.line → IsBesideSum leaf b s names k p i q t later.shown.form r
  beside_done p i q t product rest other later r made h d x y =
      let z = sum_is rational leaf s names k p i later.shown.form in
      let w = sum_is rational leaf s names k p i q in
      record {
        shown = rw (x, z) (rw (h.first.tree, h.later_line.shown.tree) at d.stands);
        line = rw (y, z, w) (rw (h.first.tree, h.rest_stands.tree, h.tail_stands.tree, h.later_line.shown.tree) at d.line);
      }

  pub ahead_done : (p : Form Ratio) (i : ℕ) (t q : Form Ratio) (product other rest : ExprId) (later r : Told) (made : Derived) → IsBeside leaf a s names k p i t q product other rest later
      → Derives b s made (sum_tree s (tree_of a.trees other) (sum_tree s (tree_of a.trees product) (tree_of a.trees rest))) (sum_tree s (tree_of a.trees product) (tree_of a.trees later.shown.tree))
      → r.shown.tree ≡ made.tree → r.line ≡ made.line → IsAheadSum leaf b s names k p i q t later.shown.form r
  ahead_done p i t q product other rest later r made h d x y =
      let z = sum_is rational leaf s names k p i later.shown.form in
      let w = sum_is rational leaf s names k p i q in
      record {
        shown = rw (x, z) (rw (h.first.tree, h.later_line.shown.tree) at d.stands);
        line = rw (y, z, w) (rw (h.first.tree, h.rest_stands.tree, h.tail_stands.tree, h.later_line.shown.tree) at d.line);
      }

  pub nodes_done : (p o : Form Ratio) (i : ℕ) (q t : Form Ratio) (pair : Pair) (rest other : ExprId) (inner later r : Told) (made : Derived) → AreNodes leaf a s names k p o i q t pair rest other inner later
      → Derives b s made (sum_tree s (sum_tree s (tree_of a.trees pair.left) (tree_of a.trees rest)) (sum_tree s (tree_of a.trees pair.right) (tree_of a.trees other))) (sum_tree s (product_tree s (tree_of a.trees inner.shown.tree) (tree_of a.trees pair.power)) (tree_of a.trees later.shown.tree))
      → r.shown.form ≡ sum inner.shown.form i later.shown.form → r.shown.tree ≡ made.tree → r.line ≡ made.line → IsSumLine leaf b s names k (sum p i q) (sum o i t) r
  nodes_done p o i q t pair rest other inner later r made h d f x y =
      let z = sum_is rational leaf s names k inner.shown.form i later.shown.form in
      let w = sum_is rational leaf s names k p i q in
      let v = sum_is rational leaf s names k o i t in
      record {
        shown = rw (f, x, z) (rw (h.inner_line.shown.tree, h.power.tree, h.later_line.shown.tree) at d.stands);
        line = rw (f, y, z, w, v) (rw (h.inner_line.shown.tree, h.power.tree, h.later_line.shown.tree, h.left.tree, h.right.tree, h.rest_stands.tree, h.tail_stands.tree) at d.line);
      }

  pub rests_done : (p o : Form Ratio) (i : ℕ) (q t : Form Ratio) (pair : Pair) (rest other : ExprId) (inner later r : Told) (made : Derived) → AreNodes leaf a s names k p o i q t pair rest other inner later
      → Derives b s made (sum_tree s (sum_tree s (tree_of a.trees pair.left) (tree_of a.trees rest)) (sum_tree s (tree_of a.trees pair.right) (tree_of a.trees other))) (tree_of a.trees later.shown.tree)
      → form_tree leaf s names k r.shown.form ≡ form_tree leaf s names (k + 1) later.shown.form → r.shown.tree ≡ made.tree → r.line ≡ made.line → IsSumLine leaf b s names k (sum p i q) (sum o i t) r
  rests_done p o i q t pair rest other inner later r made h d f x y =
      let w = sum_is rational leaf s names k p i q in
      let v = sum_is rational leaf s names k o i t in
      record {
        shown = rw (f, x) (rw h.later_line.shown.tree at d.stands);
        line = rw (f, y, w, v) (rw (h.later_line.shown.tree, h.left.tree, h.right.tree, h.rest_stands.tree, h.tail_stands.tree) at d.line);
      }

module _ (leaf : Ratio → Tree) (b : Book) (s : Sort) (names : List Tree) (k : ℕ) where
  pub constants_done : (x y : Ratio) (r : Told) (made : Derived) → Derives b s made (sum_tree s (leaf x) (leaf y)) (leaf (rational.plus x y))
      → r.shown.form ≡ constant (rational.plus x y) → r.shown.tree ≡ made.tree → r.line ≡ made.line → IsSumLine leaf b s names k (constant x) (constant y) r
  constants_done x y r made d f u v =
      let z = constant_is rational leaf s names k (rational.plus x y) in
      let w = constant_is rational leaf s names k x in
      let o = constant_is rational leaf s names k y in
      record { shown = rw (f, u, z) d.stands; line = rw (f, v, z, w, o) d.line }
