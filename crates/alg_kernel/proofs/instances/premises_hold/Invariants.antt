use Rattle.std.proofs.Common.{◌≡◌, ◌≤◌, ◌-◌, drop, length, map}
use Rattle.alg_law.specs.LawRows.{pattern_of}
use Rattle.alg_expr.specs.Ids.{statements_of, trees_at}
use Rattle.alg_expr.specs.Arena.{Extends}
use Rattle.alg_proof.specs.Instances.{premises_alike}
use Rattle.alg_kernel.proofs.instances.premises_hold.Given as goal

abbrev pub invariant-loop-i : goal.invariant-loop-i
invariant-loop-i l =
    record {
      within : l.i ≤ length l.patterns;
      grown : Extends l.fn.arena l.arena;
      same : premises_alike l.letters l.sort (trees_at l.fn.arena l.with) (map pattern_of (drop l.i l.patterns)) (statements_of l.fn.arena (drop l.i l.lines)) ≡ premises_alike l.letters l.sort (trees_at l.fn.arena l.with) (map pattern_of l.patterns) (statements_of l.fn.arena l.lines);
    }

abbrev pub decreases-loop-i : goal.decreases-loop-i
decreases-loop-i l = length l.patterns - l.i
