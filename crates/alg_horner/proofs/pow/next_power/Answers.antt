use Rattle.std.proofs.Common.{arith, suc, ◌+◌, ◌≡◌, subst}
use Rattle.alg_sums.specs.Rational.{rational}
use Rattle.alg_horner.specs.Powers.{IsPowerOf}
use Rattle.alg_horner.proofs.Powers.{power_can, power_degree, power_step}
use Rattle.alg_horner.proofs.pow.next_power.Goals as goal

pub mul-requires-clause-can : goal.mul-requires-clause-can
mul-requires-clause-can g c = power_can rational c.args.base.now c.args.power c.args.done c.args.all c.requires.more c.requires.can c.requires.power

pub returns : goal.returns
returns g c =
    let e : suc c.args.done ≡ c.args.done + 1 = omega arith in
    subst (λ n. IsPowerOf rational c.args.base.now n c.in_ok-product.product) e (power_step rational c.args.base.now c.args.power c.in_ok-product.product c.args.done c.requires.power c.in_ok-product.ensures)

pub mul-requires-clause-degree : goal.mul-requires-clause-degree
mul-requires-clause-degree g c = power_degree rational c.args.base.now c.args.power c.args.done c.args.all c.requires.more c.requires.degree c.requires.power
