use Rattle.std.proofs.Common.{◌≡◌, drop}
use Rattle.alg_proof.specs.Computations.{are_small}
use Rattle.alg_kernel.proofs.computations.are_small.Given as goal

abbrev pub invariant-loop-number : goal.invariant-loop-number
invariant-loop-number l = are_small (drop l.number-index l.numbers) ≡ are_small l.numbers
