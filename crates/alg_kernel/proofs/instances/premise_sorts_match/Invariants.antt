use Rattle.std.proofs.Common.{◌≡◌, ◌-◌, drop, length, map}
use Rattle.alg_law.specs.LawRows.{pattern_of}
use Rattle.alg_expr.specs.Ids.{statements_of}
use Rattle.alg_proof.specs.Instances.{premises_agree}
use Rattle.alg_kernel.proofs.instances.premise_sorts_match.Given as goal

abbrev pub invariant-loop-i : goal.invariant-loop-i
invariant-loop-i l = premises_agree l.sort (map pattern_of (drop l.i l.patterns)) (statements_of l._arena (drop l.i l.lines)) ≡ premises_agree l.sort (map pattern_of l.patterns) (statements_of l._arena l.lines)

abbrev pub decreases-loop-i : goal.decreases-loop-i
decreases-loop-i l = length l.patterns - l.i
