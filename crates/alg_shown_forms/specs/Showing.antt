-- Forms with the ids of their trees. The trees of the atoms are bound: for some in what is asked, for all in what is said.
use Rattle.std.specs.Prelude.{◌≡◌, ℕ, ◌+◌, List}
use Rattle.alg_terms.specs.declared.sorts.Sort.{Sort}
use Rattle.alg_terms.specs.Tree.{Tree, sum_tree, product_tree}
use Rattle.alg_expr.specs.declared.ids.ExprId.{ExprId}
use Rattle.alg_sums.specs.Ratio.{Ratio}
use Rattle.alg_horner.specs.Form.{Form, constant, skip, sum}
use Rattle.alg_horner.specs.FractionMeaning.{ratio_at}
use Rattle.alg_build.specs.Book.{Book, Proves}
use Rattle.alg_build.specs.Rewriting.{Stands}
use Rattle.alg_form_trees.specs.FormTree.{form_tree, raised}
use Rattle.alg_shown_forms.specs.declared.shown.Shown.{Shown}
use Rattle.alg_shown_forms.specs.declared.shown.Told.{Told}
use Rattle.alg_shown_forms.specs.declared.shown.Opened.{Opened}
use Rattle.alg_shown_forms.specs.declared.shown.Opened.TheVariants as opened

-- the id stands for the form's tree
abbrev pub IsShown : (Ratio → Tree) → Book → Sort → List Tree → ℕ → Shown → Type 0
IsShown leaf b s names k v = Stands b s v.tree (form_tree leaf s names k v.form)

pub record IsOneShown (leaf : Ratio → Tree) (b : Book) (s : Sort) (f : Shown) : Type 0 where
  pub names : List Tree
  pub number : ℕ
  pub shown : IsShown leaf b s names number f

-- f is p * x ^ i + q, and the ids stand for p, x ^ i, their product and q
pub record IsOpenSum (leaf : Ratio → Tree) (b : Book) (s : Sort) (names : List Tree) (k : ℕ) (f : Form Ratio) (p : Shown) (x product : ExprId) (i : ℕ) (q : Shown) : Type 0 where
  pub form : f ≡ sum p.form i q.form
  pub inner : IsShown leaf b s names k p
  pub power : Stands b s x (raised s names k i)
  pub product_stands : Stands b s product (product_tree s (form_tree leaf s names k p.form) (raised s names k i))
  pub rest : IsShown leaf b s names (k + 1) q

abbrev pub IsOpened : (Ratio → Tree) → Book → Sort → List Tree → ℕ → Form Ratio → Opened → Type 0
IsOpened leaf b s names k f (opened.Constant c) = f ≡ constant (ratio_at c.value)
IsOpened leaf b s names k f (opened.Skip j h) = (f ≡ skip j h.form) × IsShown leaf b s names (k + j) h
IsOpened leaf b s names k f (opened.Sum p x product i q) = IsOpenSum leaf b s names k f p x product i q

-- the line concludes f + g = h
pub record IsSumLine (leaf : Ratio → Tree) (b : Book) (s : Sort) (names : List Tree) (k : ℕ) (f g : Form Ratio) (r : Told) : Type 0 where
  pub shown : IsShown leaf b s names k r.shown
  pub line : Proves b r.line (sum_tree s (form_tree leaf s names k f) (form_tree leaf s names k g)) (form_tree leaf s names k r.shown.form)
