use Rattle.std.proofs.Common.{◌≡◌, ◌∙◌, ap, arith}
use Rattle.alg_sums.specs.Rational.{rational}
use Rattle.alg_horner.specs.Powers.{power_of}
use Rattle.alg_horner.proofs.CoefficientPowers.{enough}
use Rattle.alg_horner.proofs.pow.coefficient_power.Goals as goal

pub returns : goal.returns
returns g c =
    let e : c.loop-i.i ≡ c.factors-steps.result = omega arith in
    c.loop-i.invariant ∙ ap (power_of rational (g.C.Coeff.meaning c.args.c.now)) e
    ∙ enough rational (g.C.Coeff.meaning c.args.c.now) c.args.n c.factors-steps.result c.factors-steps.ensures c.requires
