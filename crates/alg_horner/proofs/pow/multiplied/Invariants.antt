use Rattle.alg_sums.specs.Rational.{rational}
use Rattle.alg_horner.specs.Powers.{IsPowerOf}
use Rattle.alg_horner.proofs.pow.multiplied.Given as goal

abbrev pub invariant-loop-i : goal.invariant-loop-i
invariant-loop-i g l = IsPowerOf rational l.base l.i l.power
