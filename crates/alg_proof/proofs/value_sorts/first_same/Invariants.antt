use Rattle.std.proofs.Common.{◌≡◌, ◌≤◌, length, drop}
use Rattle.alg_expr.specs.Applying.{sorts_at}
use Rattle.alg_proof.specs.Steps.{same_sort}
use Rattle.alg_proof.proofs.value_sorts.first_same.Given as goal

abbrev pub invariant-loop-i : goal.invariant-loop-i
invariant-loop-i l =
    record {
      within : l.i ≤ length l.args;
      same : same_sort (drop l.i l.places) (sorts_at l.arena (drop l.i l.args)) ≡ same_sort l.places (sorts_at l.arena l.args);
    }
