-- The sides of lines as ids.
use Rattle.std.specs.Prelude.{◌≡◌, ℕ, List, map, All}
use Rattle.alg_expr.specs.declared.ids.ExprId.{ExprId}
use Rattle.alg_expr.specs.Ids.{trees_at, IsIn}
use Rattle.alg_expr.specs.Applying.{sorts_at}
use Rattle.alg_build.specs.Book.{Book, left_at, right_at}

-- the left sides and the right sides of the lines of these numbers, each pair of one sort
pub record AreSides (b : Book) (is : List ℕ) (ls rs : List ExprId) : Type 0 where
  pub lefts_in : All (IsIn b.trees) ls
  pub rights_in : All (IsIn b.trees) rs
  pub lefts : trees_at b.trees ls ≡ map (left_at b) is
  pub rights : trees_at b.trees rs ≡ map (right_at b) is
  pub even : sorts_at b.trees rs ≡ sorts_at b.trees ls
