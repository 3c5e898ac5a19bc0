use Rattle.std.proofs.Common.{rules, arith, IsTrue}
use Rattle.alg_sums.specs.Rational.{rational}
use Rattle.alg_horner.proofs.Singles.{power_constant, power_skip, skip_can, skip_small, power_multiple_of, multiple_can, multiple_small, multiple_join}
use Rattle.alg_horner.proofs.pow.+raised.Goals as goal

pub returns-in_ok-form-in-Constant : goal.returns-in_ok-form-in-Constant
returns-in_ok-form-in-Constant g t c = rw (c.in-Constant.ensures, c.in_ok-form-in-Constant.ensures, c.coefficient_power.ensures) (power_constant rational _ c.args.n)

pub returns-in_ok-form-in-Skip : goal.returns-in_ok-form-in-Skip
returns-in_ok-form-in-Skip g t c = rw c.in-Skip.ensures (power_skip rational c.in-Skip.by c.in-Skip.rest c.args.n c.in_ok-power-in-Skip.power c.in_ok-form-in-Skip.form c.in_ok-power-in-Skip.ensures c.in_ok-form-in-Skip.ensures)

pub raised-requires : goal.raised-requires
raised-requires g t c =
    let h = skip_can rational c.in-Skip.by c.in-Skip.rest c.args.n (rw c.in-Skip.ensures at c.requires.can) in
    let d = skip_small rational c.in-Skip.by c.in-Skip.rest c.args.n (rw c.in-Skip.ensures at c.requires.degree) in
    search (rules, h, d)

pub raised-requires-in-Sum : goal.raised-requires-in-Sum
raised-requires-in-Sum g t c =
    let h = multiple_can rational c.in-Sum.inner c.in-Sum.power c.args.n c.in-Sum.rest (rw c.in-Sum.ensures at c.requires.can) in
    let d = multiple_small rational c.in-Sum.inner c.in-Sum.power c.args.n c.in-Sum.rest (rw c.in-Sum.ensures at c.requires.degree) in
    search (rules, h, d)

pub join-requires-clause-exponent : goal.join-requires-clause-exponent
join-requires-clause-exponent g t c = multiple_join rational c.in-Sum.inner c.in-Sum.power c.args.n c.in-Sum.rest c.in_ok-inner-in-Sum.inner c.in_ok-inner-in-Sum.ensures (rw c.in-Sum.ensures at c.requires.degree)

pub overflow_mul-n : goal.overflow_mul-n
overflow_mul-n g t c =
    let h = multiple_join rational c.in-Sum.inner c.in-Sum.power c.args.n c.in-Sum.rest c.in_ok-inner-in-Sum.inner c.in_ok-inner-in-Sum.ensures (rw c.in-Sum.ensures at c.requires.degree) in
    omega (arith, h)

pub returns-in_ok-form-in-Sum-2 : goal.returns-in_ok-form-in-Sum-2
returns-in_ok-form-in-Sum-2 g t c =
    let z : IsTrue c.is_zero.result = search rules in
    let s = rw c.in-Sum.ensures at c.told.ensures.form in
    rw c.in-Sum.ensures (power_multiple_of rational c.in-Sum.inner c.in-Sum.power c.args.n c.in-Sum.rest c.in_ok-inner-in-Sum.inner c.in_ok-form-in-Sum-2.form (c.is_zero.ensures.0 z) c.requires.positive s.0 c.in_ok-inner-in-Sum.ensures c.in_ok-form-in-Sum-2.ensures)
