-- The cases of a sum of two forms: what the ids of their parts stand for, and what is said of the sum.
use Rattle.std.specs.Prelude.{ℕ, ◌+◌, List}
use Rattle.alg_terms.specs.declared.sorts.Sort.{Sort}
use Rattle.alg_terms.specs.Tree.{Tree, sum_tree, product_tree}
use Rattle.alg_expr.specs.declared.ids.ExprId.{ExprId}
use Rattle.alg_sums.specs.Ratio.{Ratio}
use Rattle.alg_horner.specs.Form.{Form, sum}
use Rattle.alg_build.specs.Book.{Book, Proves}
use Rattle.alg_build.specs.Rewriting.{Stands}
use Rattle.alg_form_trees.specs.FormTree.{form_tree, raised}
use Rattle.alg_node_sums.specs.declared.lines.Pair.{Pair}
use Rattle.alg_shown_forms.specs.declared.shown.Told.{Told}
use Rattle.alg_shown_forms.specs.Showing.{IsSumLine}

-- a node p * x ^ i + q, and a form t over later atoms, with the line for q + t
pub record IsBeside (leaf : Ratio → Tree) (b : Book) (s : Sort) (names : List Tree) (k : ℕ) (p : Form Ratio) (i : ℕ) (q t : Form Ratio) (product rest tail : ExprId) (later : Told) : Type 0 where
  pub first : Stands b s product (product_tree s (form_tree leaf s names k p) (raised s names k i))
  pub rest_stands : Stands b s rest (form_tree leaf s names (k + 1) q)
  pub tail_stands : Stands b s tail (form_tree leaf s names (k + 1) t)
  pub later_line : IsSumLine leaf b s names (k + 1) q t later

-- for some atoms
pub record IsBesideSome (leaf : Ratio → Tree) (b : Book) (s : Sort) (p : Form Ratio) (i : ℕ) (product rest tail : ExprId) (later : Told) : Type 0 where
  pub names : List Tree
  pub number : ℕ
  pub q : Form Ratio
  pub t : Form Ratio
  pub beside : IsBeside leaf b s names number p i q t product rest tail later

-- the node with v in place of its rest is the sum of the node and of t, or of t and the node
pub record IsBesideSum (leaf : Ratio → Tree) (b : Book) (s : Sort) (names : List Tree) (k : ℕ) (p : Form Ratio) (i : ℕ) (q t v : Form Ratio) (r : Told) : Type 0 where
  pub shown : Stands b s r.shown.tree (form_tree leaf s names k (sum p i v))
  pub line : Proves b r.line (sum_tree s (form_tree leaf s names k (sum p i q)) (form_tree leaf s names (k + 1) t)) (form_tree leaf s names k (sum p i v))

pub record IsAheadSum (leaf : Ratio → Tree) (b : Book) (s : Sort) (names : List Tree) (k : ℕ) (p : Form Ratio) (i : ℕ) (q t v : Form Ratio) (r : Told) : Type 0 where
  pub shown : Stands b s r.shown.tree (form_tree leaf s names k (sum p i v))
  pub line : Proves b r.line (sum_tree s (form_tree leaf s names (k + 1) t) (form_tree leaf s names k (sum p i q))) (form_tree leaf s names k (sum p i v))

-- two nodes of one power, with the lines for the sums of their inner forms and of their rests
pub record AreNodes (leaf : Ratio → Tree) (b : Book) (s : Sort) (names : List Tree) (k : ℕ) (p o : Form Ratio) (i : ℕ) (q t : Form Ratio) (pair : Pair) (rest tail : ExprId) (inner later : Told) : Type 0 where
  pub first : Stands b s pair.first (form_tree leaf s names k p)
  pub second : Stands b s pair.second (form_tree leaf s names k o)
  pub power : Stands b s pair.power (raised s names k i)
  pub left : Stands b s pair.left (product_tree s (form_tree leaf s names k p) (raised s names k i))
  pub right : Stands b s pair.right (product_tree s (form_tree leaf s names k o) (raised s names k i))
  pub rest_stands : Stands b s rest (form_tree leaf s names (k + 1) q)
  pub tail_stands : Stands b s tail (form_tree leaf s names (k + 1) t)
  pub inner_line : IsSumLine leaf b s names k p o inner
  pub later_line : IsSumLine leaf b s names (k + 1) q t later

pub record AreNodesSome (leaf : Ratio → Tree) (b : Book) (s : Sort) (i : ℕ) (pair : Pair) (rest tail : ExprId) (inner later : Told) : Type 0 where
  pub names : List Tree
  pub number : ℕ
  pub p : Form Ratio
  pub o : Form Ratio
  pub q : Form Ratio
  pub t : Form Ratio
  pub nodes : AreNodes leaf b s names number p o i q t pair rest tail inner later
