use Rattle.std.proofs.Common.{◌+◌, ◌<◌, ◌≤◌, length, refl, ap, sym, ◌∙◌, arith}
use Rattle.alg_report.specs.declared.causes.FailCause.TheVariants.{NoGoals}
use Rattle.alg_report.specs.Judged.{Failed}
use Rattle.alg_scripts.proofs.Asking.{fit_at}
use Rattle.alg_scripts.proofs.Stepping.{some_calls, rest_calls, no_calls, closed_by, closed_by_none, asked_fits, running_next, running_failed, running_no_goals, running_end, failed_stays}
use Rattle.alg_scripts.proofs.running.run_script.Goals as goal

pub step-requires-clause-fits : goal.step-requires-clause-fits
step-requires-clause-fits g c =
    let l : c.loop-procedure.procedure-index < length c.args.script.now = omega arith in
    asked_fits _ _ _ _ _ _ _ _ _ c.loop-procedure.invariant.running _ (fit_at c.args.from.now _ _ c.args.script.now c.loop-procedure.procedure-index c.procedure-item.result l c.procedure-item.is c.requires.fit)

pub returns-then-is_some-clause-tells : goal.returns-then-is_some-clause-tells
returns-then-is_some-clause-tells g c =
    let l : c.loop-procedure.procedure-index < length c.args.script.now = omega arith in
    let w = closed_by c.loop-procedure.state.closed (sym c.is_some.ensures ∙ c.if-is_some.true) in
    running_no_goals _ _ _ _ _ _ _ _ _ c.loop-procedure.invariant.running c.loop-procedure.cx _ w.0 _ (some_calls c.args.from.now c.args.script.now c.requires.some) w.1
    (rest_calls c.args.from.now c.args.script.now c.loop-procedure.procedure-index c.procedure-item.result l c.procedure-item.is) refl (ap (λ n. Failed (n + 1) NoGoals) c.loop-procedure.invariant.number)

pub returns-in-Err-clause-tells : goal.returns-in-Err-clause-tells
returns-in-Err-clause-tells g c =
    let l : c.loop-procedure.procedure-index < length c.args.script.now = omega arith in
    running_failed _ _ _ _ _ _ _ _ _ c.loop-procedure.invariant.running _ _ _ _ _ _ (some_calls c.args.from.now c.args.script.now c.requires.some) (closed_by_none c.loop-procedure.state.closed (sym c.is_some.ensures ∙ c.if-is_some.false))
    (rest_calls c.args.from.now c.args.script.now c.loop-procedure.procedure-index c.procedure-item.result l c.procedure-item.is) c.in-Err.ensures.answer refl (ap (λ n. n + 1) c.loop-procedure.invariant.number)
    c.failed.ensures.cause c.failed.ensures.ran

pub returns-in-Err-clause-stays : goal.returns-in-Err-clause-stays
returns-in-Err-clause-stays g c = failed_stays _ _ _ _ _ _ _ _ _ c.loop-procedure.invariant.running c.step.new.cx _ c.step.ensures.grows

pub loop-procedure-preserved : goal.loop-procedure-preserved
loop-procedure-preserved g c =
    let l : c.loop-procedure.procedure-index < length c.args.script.now = omega arith in
    record {
      running = running_next _ _ _ _ _ _ _ _ _ c.loop-procedure.invariant.running c.step.new.cx _ c.in-Ok.made c.moved.new.backs.items c.in_ok-state-in-Ok.state c.noted.new.notes.items (closed_by_none c.loop-procedure.state.closed (sym c.is_some.ensures ∙ c.if-is_some.false))
          (rest_calls c.args.from.now c.args.script.now c.loop-procedure.procedure-index c.procedure-item.result l c.procedure-item.is) c.in-Ok.ensures.grows c.in-Ok.ensures.answer c.in-Ok.ensures.leads c.in_ok-state-in-Ok.ensures
          c.in_ok-noted-in-Ok.ensures;
      number = ap (λ n. n + 1) c.loop-procedure.invariant.number;
    }

pub returns-clause-tells : goal.returns-clause-tells
returns-clause-tells g c =
    let l : length c.args.script.now ≤ c.loop-procedure.procedure-index = omega arith in
    running_end _ _ _ _ _ _ _ _ _ c.loop-procedure.invariant.running c.ended.new.cx _ (some_calls c.args.from.now c.args.script.now c.requires.some) (no_calls c.args.from.now c.args.script.now c.loop-procedure.procedure-index l) refl
    c.in_ok-ending.ensures.tells
