use Rattle.alg_sums.specs.Rational.{rational}
use Rattle.alg_horner.proofs.Powers.{power_start}
use Rattle.std.proofs.Common.{ap, ◌∙◌}
use Rattle.alg_horner.specs.Form.{constant}
use Rattle.alg_horner.proofs.pow.multiplied.Goals as goal

pub loop-i-init : goal.loop-i-init
loop-i-init g c = power_start rational c.args.base.now c.in_ok-power.power (c.in_ok-power.ensures ∙ ap constant c.one.ensures)
