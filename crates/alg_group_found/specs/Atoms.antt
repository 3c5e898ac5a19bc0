-- The atoms of a tree, each once.
use Rattle.std.specs.Prelude.{◌≡◌, cond, List, [], ◌∷◌, reverse, All, ℤ, Option}
use Rattle.alg_terms.specs.Tree.{Tree}
use Rattle.alg_expr.specs.declared.ids.ExprId.{ExprId}
use Rattle.alg_expr.specs.Ids.{trees_at, IsIn}
use Rattle.alg_build.specs.Book.{Book}
use Rattle.alg_group_words.specs.Limits.{atoms, distinct, is_there}

-- those of the first trees that aren't among the others
abbrev pub apart : List Tree → List Tree → List Tree
apart [] ys = []
apart (x ∷ xs) ys = cond (is_there x ys) (apart xs ys) (x ∷ apart xs ys)

-- the distinct trees, from the last one on
unfoldable pub once : List Tree → List Tree
once ts = reverse (distinct ts)

-- the ids of the atoms of a tree
pub record AreAtoms (value : Tree → Option ℤ) (b : Book) (t : Tree) (es : List ExprId) : Type 0 where
  pub here : All (IsIn b.trees) es
  pub trees : trees_at b.trees es ≡ once (atoms value t)
