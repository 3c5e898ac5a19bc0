use Rattle.std.proofs.Common.{◌≡◌, ◌<◌, ◌^◌}
use Rattle.alg_law.specs.LeanFunctions.{choose}
use Rattle.alg_compute.proofs.choices.choose_few.Given as goal

abbrev pub invariant-loop-i : goal.invariant-loop-i
invariant-loop-i l = record { reached : l.value ≡ choose l.n l.i; small : l.value < 2 ^ 127 }
