use Rattle.std.proofs.Common.{arith, subst}
use Rattle.alg_horner.specs.Form.{skip}
use Rattle.alg_horner.specs.Adding.{IsUnder}
use Rattle.alg_sums.specs.Rational.{rational}
use Rattle.alg_horner.proofs.Adding.{under_same, under_left, under_swap}
use Rattle.alg_horner.proofs.add.align_skips.Goals as goal

pub returns-then-by-other : goal.returns-then-by-other
returns-then-by-other g c = subst (λ k. IsUnder rational (skip c.args.by c.args.first) (skip k c.args.second) c.args.by c.args.first c.args.second) c.if-by-other.true (under_same rational c.args.by c.args.first c.args.second)

pub returns-then-by-other-2 : goal.returns-then-by-other-2
returns-then-by-other-2 g c = under_left rational c.args.by c.args.other c.args.first c.args.second c.in_ok-second.second (omega (arith, c.if-by-other-2.true)) c.in_ok-second.ensures

pub returns : goal.returns
returns g c = under_swap rational _ _ _ _ _ (under_left rational c.args.other c.args.by c.args.second c.args.first c.in_ok-first.first c.if-by-other-2.false c.in_ok-first.ensures)
