use Rattle.std.proofs.Common.{◌≡◌, take, map}
use Rattle.std.specs.Prelude.{unsigned_abs}
use Rattle.alg_kernel.proofs.computations.absolutes.Given as goal

abbrev pub invariant-loop-number : goal.invariant-loop-number
invariant-loop-number l = l.args.items ≡ map unsigned_abs (take l.number-index l.numbers)
