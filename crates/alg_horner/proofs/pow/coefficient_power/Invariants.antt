use Rattle.std.proofs.Common.{◌≡◌}
use Rattle.alg_sums.specs.Rational.{rational}
use Rattle.alg_horner.specs.Powers.{power_of}
use Rattle.alg_horner.proofs.pow.coefficient_power.Given as goal

abbrev pub invariant-loop-i : goal.invariant-loop-i
invariant-loop-i g l = g.C.Coeff.meaning l.power ≡ power_of rational (g.C.Coeff.meaning l.c) l.i
