use Rattle.std.proofs.Common.{◌≡◌, drop}
use Rattle.alg_expr.specs.Ids.{statements_of}
use Rattle.alg_proof.specs.Steps.{all_equations}
use Rattle.alg_kernel.proofs.congruence.are_equations.Given as goal

abbrev pub invariant-loop-part : goal.invariant-loop-part
invariant-loop-part l = all_equations (statements_of l._arena (drop l.part-index l.parts)) ≡ all_equations (statements_of l._arena l.parts)
