use Rattle.alg_horner.proofs.Exponents.{join_multiple}
use Rattle.alg_sums.specs.Rational.{rational}
use Rattle.alg_horner.proofs.Multiplying.{multiple_constant, multiple_skip, multiple_sum}
use Rattle.alg_horner.proofs.mul.+scaled.Goals as goal

pub returns-in_ok-form-in-Constant : goal.returns-in_ok-form-in-Constant
returns-in_ok-form-in-Constant g t c = rw (c.in-Constant.ensures, c.in_ok-form-in-Constant.ensures, c.mul.ensures) (multiple_constant rational _ _)

pub returns-in_ok-form-in-Skip : goal.returns-in_ok-form-in-Skip
returns-in_ok-form-in-Skip g t c = rw c.in-Skip.ensures (multiple_skip rational c.in-Skip.by c.in-Skip.rest _ c.in_ok-rest-in-Skip.rest c.in_ok-form-in-Skip.form c.in_ok-rest-in-Skip.ensures c.in_ok-form-in-Skip.ensures)

pub returns-in_ok-form-in-Sum : goal.returns-in_ok-form-in-Sum
returns-in_ok-form-in-Sum g t c = rw c.in-Sum.ensures (multiple_sum rational c.in-Sum.inner c.in-Sum.power c.in-Sum.rest _ c.in_ok-inner-in-Sum.inner c.in_ok-rest-in-Sum.rest c.in_ok-form-in-Sum.form c.in_ok-inner-in-Sum.ensures c.in_ok-rest-in-Sum.ensures c.in_ok-form-in-Sum.ensures)

pub join-requires-clause-exponent : goal.join-requires-clause-exponent
join-requires-clause-exponent g t c = join_multiple rational c.in-Sum.inner c.in-Sum.power c.in-Sum.rest _ c.in_ok-inner-in-Sum.inner c.in_ok-inner-in-Sum.ensures (rw c.in-Sum.ensures at c.told.ensures)
