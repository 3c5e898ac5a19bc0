use Rattle.std.proofs.Common.{◌≡◌, ◌<◌, ◌^◌}
use Rattle.alg_law.specs.LeanFunctions.{factorial}
use Rattle.alg_compute.proofs.sequences.factorial.Given as goal

abbrev pub invariant-loop-i : goal.invariant-loop-i
invariant-loop-i l = record { reached : l.value ≡ factorial l.i; small : l.value < 2 ^ 127 }
