use Rattle.std.proofs.Common.{◌≡◌}
use Rattle.alg_expr.specs.Ids.{statement_of}
use Rattle.alg_steps.specs.Calling.{cover_of}
use Rattle.alg_report.specs.Seen.{calls_in}
use Rattle.alg_scripts.proofs.Stepping.{IsRunning}
use Rattle.alg_scripts.proofs.running.run_script.Given as goal

abbrev pub invariant-loop-procedure : goal.invariant-loop-procedure
invariant-loop-procedure g l = record {
  running : IsRunning (g.P.Procedures.step (cover_of (λ x f. (goal.NumExt-dyn g (x.vtable, x.value)).covered x.value f) (λ x f. (goal.SignExt-dyn g (x.vtable, x.value)).handled x.value f) l.exts.num.now l.exts.num_on.now l.exts.sign.now l.exts.sign_on.now)) l.fn.cx (statement_of l.fn.cx.trees l.fn.goal) (calls_in l.from l.script) l.cx l.procedure-index l.state l.backs.items l.notes.items;
  number : l.number ≡ l.procedure-index;
}
