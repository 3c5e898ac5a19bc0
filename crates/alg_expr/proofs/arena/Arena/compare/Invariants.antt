use Rattle.std.proofs.Common.{◌≡◌}
use Rattle.alg_terms.specs.Order.{tree_cmp}
use Rattle.alg_expr.specs.Ids.{tree_of, IsIn}
use Rattle.alg_expr.proofs.arena.Arena.compare.Given as goal

abbrev pub invariant-walk : goal.invariant-walk
invariant-walk l =
    record {
      left_in : IsIn l.self l.left;
      right_in : IsIn l.self l.right;
      order : tree_cmp (tree_of l.self l.left) (tree_of l.self l.right) ≡ tree_cmp (tree_of l.self l.fn.a) (tree_of l.self l.fn.b);
    }

abbrev pub decreases-walk : goal.decreases-walk
decreases-walk l = l.left.index
