use Rattle.std.proofs.Common.{◌≡◌, drop}
use Rattle.alg_evaluation.specs.Found.{numbers_of}
use Rattle.alg_evaluation.proofs.Parting.{onto}
use Rattle.alg_evaluation.proofs.gathering.numbers.Given as goal

abbrev pub invariant-loop-f : goal.invariant-loop-f
invariant-loop-f l = numbers_of l.parts ≡ onto l.numbers.items (numbers_of (drop l.f-index l.parts))
