use Rattle.std.proofs.Common.{length, ◌-◌, ◌≡◌, ◌≤◌, drop}
use Rattle.alg_terms.specs.Tree.{of_list}
use Rattle.alg_terms.specs.Order.{trees_cmp}
use Rattle.alg_expr.specs.Ids.{trees_at}
use Rattle.alg_expr.proofs.arena.Arena.first_apart.Given as goal

abbrev pub invariant-loop-i : goal.invariant-loop-i
invariant-loop-i l =
    record {
      left : l.i ≤ length l.xs;
      right : l.i ≤ length l.ys;
      order : trees_cmp (of_list (trees_at l.self (drop l.i l.xs))) (of_list (trees_at l.self (drop l.i l.ys))) ≡ trees_cmp (of_list (trees_at l.self l.xs)) (of_list (trees_at l.self l.ys));
    }

abbrev pub decreases-loop-i : goal.decreases-loop-i
decreases-loop-i l = length l.xs - l.i
