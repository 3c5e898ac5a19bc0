use Rattle.alg_sums.specs.Rational.{rational}
use Rattle.alg_horner.proofs.Adding.{under_constant, under_swap, later_skip, beside_swap}
use Rattle.alg_horner.proofs.add.align_skip.Goals as goal

pub returns-in_ok-second-in-Constant : goal.returns-in_ok-second-in-Constant
returns-in_ok-second-in-Constant g c = rw (c.in-Constant.ensures, c.in_ok-second-in-Constant.ensures) (under_swap rational _ _ _ _ _ (under_constant rational _ c.args.by c.args.first))

pub returns-in_ok-tail-in-Sum : goal.returns-in_ok-tail-in-Sum
returns-in_ok-tail-in-Sum g c = rw c.in-Sum.ensures (beside_swap rational c.in-Sum.inner c.in-Sum.power c.in-Sum.rest _ _ (let s = rw c.in-Sum.ensures at c.requires.second.form in s.0) (later_skip rational c.args.by c.args.first c.in_ok-tail-in-Sum.tail c.requires.first.form.0 c.in_ok-tail-in-Sum.ensures))
