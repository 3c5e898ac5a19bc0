use Rattle.std.proofs.Common.{◌≡◌, suc, ◌+◌, ◌<◌, ◌^◌}
use Rattle.alg_law.specs.LeanFunctions.{fibonacci}
use Rattle.alg_compute.proofs.sequences.fibonacci.Given as goal

abbrev pub invariant-loop-i : goal.invariant-loop-i
invariant-loop-i l = record { reached : l.here ≡ fibonacci l.i; next : l.before + l.here ≡ fibonacci (suc l.i); small : l.here < 2 ^ 127 }
