use Rattle.std.proofs.Common.{◌^◌, sym, lit<}
use Rattle.alg_compute.proofs.Choosing.{choose-zero, choose-past_limit}
use Rattle.alg_compute.proofs.choices.choose_few.Goals as goal

pub loop-i-init : goal.loop-i-init
loop-i-init c = record { reached = sym (choose-zero c.args.n); small = lit< tt }

pub returns-in_err-value : goal.returns-in_err-value
returns-in_err-value c =
    rw c.from_residual.ensures
    (choose-past_limit (2 ^ 127) c.args.n c.loop-i.i c.args.k c.loop-i-test.true c.requires (c.in_err-value.ensures {u = tt}))
