use Rattle.std.proofs.Common.{arith}
use Rattle.alg_horner.specs.Form.{sum}
use Rattle.alg_horner.proofs.Exponents.{sound_skip, sound_twice}
use Rattle.alg_horner.proofs.Normal.{skip_constant_of, skip_twice_of}
use Rattle.alg_sums.specs.Rational.{rational}
use Rattle.alg_horner.proofs.form.Horner.skip.Goals as goal

pub returns-in_ok-node-in-Constant : goal.returns-in_ok-node-in-Constant
returns-in_ok-node-in-Constant g c = rw c.in_ok-node-in-Constant.ensures.ok (skip_constant_of rational c.args.by _ c.args.rest c.in-Constant.ensures)

pub returns-in_ok-node-in-Skip : goal.returns-in_ok-node-in-Skip
returns-in_ok-node-in-Skip g c = rw c.in_ok-node-in-Skip.ensures.ok (skip_twice_of rational c.args.by c.in-Skip.more c.in-Skip.rest c.args.rest c.in-Skip.ensures)

pub sum-requires : goal.sum-requires
sum-requires g c = rw c.in-Sum.ensures at c.told.ensures

pub invariant_of-result-in-Skip : goal.invariant_of-result-in-Skip
invariant_of-result-in-Skip g c = rw c.in_ok-node-in-Skip.ensures.ok (sound_twice rational c.args.by c.in-Skip.more c.in-Skip.rest c.args.rest c.in-Skip.ensures c.told.ensures c.requires)

pub invariant_of-result-in-Sum : goal.invariant_of-result-in-Sum
invariant_of-result-in-Sum g c =
    rw (c.in_ok-node-in-Sum.ensures.ok, c.in_ok-rest-in-Sum.ensures)
    (sound_skip rational c.args.by (sum c.in-Sum.inner c.in-Sum.power c.in-Sum.rest) (omega (arith, c.if-by-eq0.false)) tt (rw c.in-Sum.ensures at c.told.ensures) (rw c.in-Sum.ensures at c.requires))
