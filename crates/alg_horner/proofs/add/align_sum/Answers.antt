use Rattle.alg_sums.specs.Rational.{rational}
use Rattle.alg_horner.proofs.Adding.{later_constant, later_skip, beside}
use Rattle.alg_horner.proofs.add.align_sum.Goals as goal

pub returns-in_ok-tail-in-Constant : goal.returns-in_ok-tail-in-Constant
returns-in_ok-tail-in-Constant g c = rw (c.in-Constant.ensures, c.in_ok-tail-in-Constant.ensures) (beside rational c.args.inner c.args.power c.args.rest _ _ c.requires.first.form.0 (later_constant rational _))

pub returns-in_ok-tail-in-Skip : goal.returns-in_ok-tail-in-Skip
returns-in_ok-tail-in-Skip g c = rw c.in-Skip.ensures (beside rational c.args.inner c.args.power c.args.rest _ _ c.requires.first.form.0 (later_skip rational c.in-Skip.by c.in-Skip.later c.in_ok-tail-in-Skip.tail (let s = rw c.in-Skip.ensures at c.requires.second.form in s.0) c.in_ok-tail-in-Skip.ensures))
