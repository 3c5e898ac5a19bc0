use Rattle.std.proofs.Common.{◌≡◌, drop}
use Rattle.alg_proof.specs.Computations.{has_numerals}
use Rattle.alg_kernel.proofs.computations.has_numerals.Given as goal

abbrev pub invariant-loop-number : goal.invariant-loop-number
invariant-loop-number l = has_numerals l.base l.sort (drop l.number-index l.numbers) ≡ has_numerals l.base l.sort l.numbers
