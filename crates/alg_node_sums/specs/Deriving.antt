-- A tree with a line that another equals it, and the ids of two products by one power.
use Rattle.std.specs.Prelude.{◌≡◌}
use Rattle.alg_terms.specs.declared.sorts.Sort.{Sort}
use Rattle.alg_terms.specs.Tree.{Tree, product_tree, sort_of_tree}
use Rattle.alg_expr.specs.Ids.{tree_of}
use Rattle.alg_build.specs.Book.{Book, Proves}
use Rattle.alg_build.specs.Rewriting.{Stands}
use Rattle.alg_node_sums.specs.declared.lines.Derived.{Derived}
use Rattle.alg_node_sums.specs.declared.lines.Pair.{Pair}

-- the line concludes t = u, and the id stands for u
pub record Derives (b : Book) (s : Sort) (d : Derived) (t u : Tree) : Type 0 where
  pub stands : Stands b s d.tree u
  pub line : Proves b d.line t u
  pub sort : sort_of_tree t ≡ s

-- the ids stand for two trees, and for the products of both with a third
pub record ArePair (b : Book) (s : Sort) (p : Pair) : Type 0 where
  pub first : Stands b s p.first (tree_of b.trees p.first)
  pub second : Stands b s p.second (tree_of b.trees p.second)
  pub power : Stands b s p.power (tree_of b.trees p.power)
  pub left : Stands b s p.left (product_tree s (tree_of b.trees p.first) (tree_of b.trees p.power))
  pub right : Stands b s p.right (product_tree s (tree_of b.trees p.second) (tree_of b.trees p.power))
