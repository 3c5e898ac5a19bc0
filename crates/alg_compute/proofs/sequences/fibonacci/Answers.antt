use Rattle.std.proofs.Common.{◌+◌, ◌^◌, sym, ap, ◌∙◌, lit<, add-one}
use Rattle.alg_law.specs.LeanFunctions.{fibonacci}
use Rattle.alg_compute.proofs.Growing.{fibonacci-zero, fibonacci-one, fibonacci-next, fibonacci-past}
use Rattle.alg_compute.proofs.sequences.fibonacci.Goals as goal

pub loop-i-init : goal.loop-i-init
loop-i-init c = record { reached = sym fibonacci-zero; next = sym fibonacci-one; small = lit< tt }

pub returns-in_err-next : goal.returns-in_err-next
returns-in_err-next c =
    rw c.from_residual.ensures
    (fibonacci-past (2 ^ 127) c.args.n c.loop-i.i c.loop-i.before c.loop-i.here c.loop-i-test.true c.loop-i.invariant.next (c.in_err-next.ensures {u = tt}))

pub loop-i-preserved : goal.loop-i-preserved
loop-i-preserved c =
    let s = c.in_ok-next.ensures {u = tt} in
    record {
      reached = s.1 ∙ c.loop-i.invariant.next ∙ ap fibonacci (sym (add-one c.loop-i.i));
      next = ap (λ n. c.loop-i.here + n) s.1 ∙ fibonacci-next c.loop-i.i c.loop-i.before c.loop-i.here c.loop-i.invariant.reached c.loop-i.invariant.next;
      small = rw s.1 s.0;
    }
