-- The trees of sorted sums, and what ids stand for them.
use Rattle.std.specs.Prelude.{◌≡◌, ℕ, zero, suc, ◌<◌, ◌≤◌, true, List, [], ◌∷◌, length, take, get_or}
use Rattle.alg_terms.specs.declared.sorts.Sort.{Sort}
use Rattle.alg_terms.specs.Tree.{Tree, Lit, sum_tree}
use Rattle.alg_expr.specs.declared.ids.ExprId.{ExprId}
use Rattle.alg_law.specs.declared.classes.Class.TheVariants.{AddMonoid, AddCommMonoid}
use Rattle.alg_law.specs.declared.marks.Mark.TheVariants.{Good}
use Rattle.alg_law.specs.Having.{has_class}
use Rattle.alg_law.specs.WellSorted.{sort_mark}
use Rattle.alg_lemma.specs.Library.{HoldsLibrary}
use Rattle.alg_proof.specs.Steps.{Theory}
use Rattle.alg_build.specs.Book.{Book}
use Rattle.alg_build.specs.Rewriting.{Stands}
use Rattle.alg_monomials.specs.declared.monomials.Monomial.{Monomial}
use Rattle.alg_monomials.specs.declared.terms.Term.{Term}
use Rattle.alg_monomials.specs.Monomials.{powers, no_monomial}
use Rattle.alg_monomials.specs.Terms.{no_term}
use Rattle.alg_sorted_sums.specs.Writing.{Writing}

-- what lines of sums rest on
pub record CanSum (t : Theory) (s : Sort) : Type 0 where
  pub known : sort_mark t.declarations s ≡ Good
  pub monoid : has_class t.declarations s AddMonoid ≡ true
  pub commutative : has_class t.declarations s AddCommMonoid ≡ true
  pub library : HoldsLibrary t.lemmas

-- the tree of a monomial of the table, of which these are the trees
abbrev pub monomial_at : Sort → List Tree → Term → Tree
monomial_at s keys t = get_or keys t.monomial (Lit s 0)

abbrev pub term_tree : Writing → Sort → List Tree → Term → Tree
term_tree w s keys t = w.term s (monomial_at s keys t) t.value

unfoldable pub sum_from : Writing → Sort → List Tree → Tree → List Term → Tree
sum_from w s keys t [] = t
sum_from w s keys t (u ∷ us) = sum_from w s keys (sum_tree s t (term_tree w s keys u)) us

-- a leading 0, then the terms, grouped to the left
unfoldable pub sum_of : Writing → Sort → List Tree → List Term → Tree
sum_of w s keys ts = sum_from w s keys (Lit s 0) ts

-- the id of the first k terms
abbrev pub sum_at : ExprId → List Term → ℕ → ExprId
sum_at z ts zero = z
sum_at z ts (suc k) = (get_or ts k no_term).sum

-- the ids of a table stand for these trees, and a monomial has one tree
pub record AreKeys (b : Book) (s : Sort) (keys : List Tree) (table : List Monomial) : Type 0 where
  pub each : (k : ℕ) → k < length table → Stands b s (get_or table k no_monomial).tree (get_or keys k (Lit s 0))
  pub one : (i j : ℕ) → i < length table → j < length table → powers (get_or table i no_monomial).factors ≡ powers (get_or table j no_monomial).factors → get_or keys i (Lit s 0) ≡ get_or keys j (Lit s 0)

pub record IsTermOf (w : Writing) (b : Book) (s : Sort) (keys : List Tree) (table : List Monomial) (t : Term) : Type 0 where
  pub known : t.monomial < length table
  pub stands : Stands b s t.tree (term_tree w s keys t)

-- the ids of terms stand for them, and for the sums that end with them
pub record IsSum (w : Writing) (b : Book) (s : Sort) (keys : List Tree) (table : List Monomial) (z : ExprId) (ts : List Term) : Type 0 where
  pub terms : (k : ℕ) → k < length ts → IsTermOf w b s keys table (get_or ts k no_term)
  pub sums : (k : ℕ) → k ≤ length ts → Stands b s (sum_at z ts k) (sum_of w s keys (take k ts))
