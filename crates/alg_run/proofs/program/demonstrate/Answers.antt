use Rattle.std.proofs.Common.{◌∙◌, ap, Err}
use Rattle.alg_steps.specs.Calling.{cover_of}
use Rattle.alg_run.proofs.Lengthening.{text_short}
use Rattle.alg_run.proofs.Proving.{demo_done, demo_failed, demo_no_memory, demo_no_text}
use Rattle.alg_run.proofs.program.demonstrate.Goals as goal

pub returns-in-Err-clause-answers : goal.returns-in-Err-clause-answers
returns-in-Err-clause-answers g c = demo_no_text _ (g.P.Procedures.step (cover_of (λ x f. (goal.NumExt-dyn g (x.vtable, x.value)).covered x.value f) (λ x f. (goal.SignExt-dyn g (x.vtable, x.value)).handled x.value f) c.args.exts.now.num.now c.args.exts.now.num_on.now c.args.exts.now.sign.now c.args.exts.now.sign_on.now)) c.args.count

pub do_text-requires-clause-short : goal.do_text-requires-clause-short
do_text-requires-clause-short g c = text_short c.args.count _ _ c.requires.few c.as_str.ensures.value c.in-Ok.ensures.text

pub returns-in-Ok-do_text-clause-answers : goal.returns-in-Ok-do_text-clause-answers
returns-in-Ok-do_text-clause-answers g c = demo_done _ _ (g.P.Procedures.step (cover_of (λ x f. (goal.NumExt-dyn g (x.vtable, x.value)).covered x.value f) (λ x f. (goal.SignExt-dyn g (x.vtable, x.value)).handled x.value f) c.args.exts.now.num.now c.args.exts.now.num_on.now c.args.exts.now.sign.now c.args.exts.now.sign_on.now)) c.args.count c.as_str.result.now _ _ (c.as_str.ensures.value ∙ c.in-Ok.ensures.text) c.in-Ok-do_text.is c.do_text.ensures.done

pub returns-in-Err-HostFailed-clause-answers : goal.returns-in-Err-HostFailed-clause-answers
returns-in-Err-HostFailed-clause-answers g c =
    demo_failed _ _ (g.P.Procedures.step (cover_of (λ x f. (goal.NumExt-dyn g (x.vtable, x.value)).covered x.value f) (λ x f. (goal.SignExt-dyn g (x.vtable, x.value)).handled x.value f) c.args.exts.now.num.now c.args.exts.now.num_on.now c.args.exts.now.sign.now c.args.exts.now.sign_on.now)) c.args.count c.as_str.result.now _ (c.as_str.ensures.value ∙ c.in-Ok.ensures.text) (c.in-Err-HostFailed.is ∙ ap Err c.in-Err-HostFailed.field-0-is) c.do_text.ensures.done

pub returns-clause-answers : goal.returns-clause-answers
returns-clause-answers g c = demo_no_memory _ _ (g.P.Procedures.step (cover_of (λ x f. (goal.NumExt-dyn g (x.vtable, x.value)).covered x.value f) (λ x f. (goal.SignExt-dyn g (x.vtable, x.value)).handled x.value f) c.args.exts.now.num.now c.args.exts.now.num_on.now c.args.exts.now.sign.now c.args.exts.now.sign_on.now)) c.args.count c.as_str.result.now _ (c.as_str.ensures.value ∙ c.in-Ok.ensures.text) c.do_text.ensures.done
