use Rattle.std.proofs.Common.{◌^◌, sym, ◌∙◌, lit<}
use Rattle.alg_compute.proofs.Growing.{factorial-zero, factorial-next, factorial-past}
use Rattle.alg_compute.proofs.sequences.factorial.Goals as goal

pub loop-i-init : goal.loop-i-init
loop-i-init c = record { reached = sym factorial-zero; small = lit< tt }

pub returns-in_err-value : goal.returns-in_err-value
returns-in_err-value c =
    rw c.from_residual.ensures
    (factorial-past (2 ^ 127) c.args.n c.loop-i.i c.loop-i.value c.loop-i-test.true c.loop-i.invariant.reached (c.in_err-value.ensures {u = tt}))

pub loop-i-preserved : goal.loop-i-preserved
loop-i-preserved c =
    let s = c.in_ok-value.ensures {u = tt} in
    record { reached = s.1 ∙ factorial-next c.loop-i.i c.loop-i.value c.loop-i.invariant.reached; small = rw s.1 s.0 }
