use Rattle.std.proofs.Common.{◌≡◌, ◌≤◌, drop, length}
use Rattle.alg_terms.specs.Tree.{of_list}
use Rattle.alg_expr.specs.Ids.{trees_at}
use Rattle.alg_law.specs.Marks.{HasMarks}
use Rattle.alg_law.specs.WellSorted.{marks_of}
use Rattle.alg_kernel.proofs.judging.marks_for.Given as goal

abbrev pub invariant-loop-i : goal.invariant-loop-i
invariant-loop-i l =
    record {
      within : l.i ≤ length l.with;
      marked : HasMarks l.base l.arena l.marks.items;
      same : l.worst ≡ marks_of l.base (of_list (trees_at l.arena (drop l.i l.with)));
    }

abbrev pub decreases-loop-i : goal.decreases-loop-i
decreases-loop-i l = l.i
