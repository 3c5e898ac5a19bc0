use Rattle.alg_sums.specs.Rational.{rational}
use Rattle.alg_horner.proofs.Adding.{constants, under_constant, later_constant, beside_swap}
use Rattle.alg_horner.proofs.add.align.Goals as goal

pub returns-in-Constant-split : goal.returns-in-Constant-split
returns-in-Constant-split g c = rw (c.in-Constant.ensures, c.in-Constant-split.ensures) (constants rational _ _)

pub returns-in_ok-first-in-Skip-split : goal.returns-in_ok-first-in-Skip-split
returns-in_ok-first-in-Skip-split g c = rw (c.in-Constant.ensures, c.in-Skip-split.ensures, c.in_ok-first-in-Skip-split.ensures) (under_constant rational _ _ _)

pub returns-in_ok-tail-in-Sum-split : goal.returns-in_ok-tail-in-Sum-split
returns-in_ok-tail-in-Sum-split g c = rw (c.in-Constant.ensures, c.in-Sum-split.ensures, c.in_ok-tail-in-Sum-split.ensures) (beside_swap rational _ _ _ _ _ (let s = rw c.in-Sum-split.ensures at c.requires.second.form in s.0) (later_constant rational _))
