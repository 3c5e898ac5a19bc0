-- A rewriting that leads to a sum, whose parts are derived further.
use Rattle.alg_terms.specs.declared.sorts.Sort.{Sort}
use Rattle.alg_terms.specs.Tree.{Tree, sum_tree}
use Rattle.alg_expr.specs.Ids.{tree_of}
use Rattle.alg_build.specs.Book.{Book}
use Rattle.alg_build.specs.Rewriting.{Turns}
use Rattle.alg_build.specs.declared.rewriting.Rewriting.{Rewriting}
use Rattle.alg_node_sums.specs.declared.lines.Derived.{Derived}
use Rattle.alg_node_sums.specs.Deriving.{Derives}

pub record LeadsToSum (b : Book) (s : Sort) (r : Rewriting) (d e : Derived) : Type 0 where
  pub from : Tree
  pub left : Tree
  pub right : Tree
  pub turns : Turns b s r from (sum_tree s left right)
  pub first : Derives b s d left (tree_of b.trees d.tree)
  pub second : Derives b s e right (tree_of b.trees e.tree)
