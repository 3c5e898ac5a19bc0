use Rattle.std.proofs.Common.{◌∙◌, ap, Err}
use Rattle.alg_words.specs.Words.{text_in}
use Rattle.alg_steps.specs.Calling.{cover_of}
use Rattle.alg_run.proofs.Proving.{no_load, no_memory_to_load, too_long, not_text, host_failed, no_memory, done}
use Rattle.alg_run.proofs.program.prove.Goals as goal

pub returns-in-Err-Failed-clause-answers : goal.returns-in-Err-Failed-clause-answers
returns-in-Err-Failed-clause-answers g c = no_load _ _ _ _ (text_in c.args.cert) (rw c.in-Err-Failed.field-0-is at c.in-Err-Failed.ensures.told)

pub returns-in-Err-TooLong-clause-answers : goal.returns-in-Err-TooLong-clause-answers
returns-in-Err-TooLong-clause-answers g c =
    too_long _ _ _ (g.P.Procedures.step (cover_of (λ x f. (goal.NumExt-dyn g (x.vtable, x.value)).covered x.value f) (λ x f. (goal.SignExt-dyn g (x.vtable, x.value)).handled x.value f) c.args.exts.now.num.now c.args.exts.now.num_on.now c.args.exts.now.sign.now c.args.exts.now.sign_on.now)) _ (text_in c.args.cert) (rw c.in-Err-TooLong.field-0-is at c.in-Err-TooLong.ensures.told) (rw c.in-Err-TooLong.field-0-is at c.in-Err-TooLong.ensures.too_long)

pub returns-in-Err-Memory-clause-answers : goal.returns-in-Err-Memory-clause-answers
returns-in-Err-Memory-clause-answers g c = no_memory_to_load _ _ _ _ (text_in c.args.cert) (rw c.in-Err-Memory.field-0-is at c.in-Err-Memory.ensures.told)

pub returns-in-Ok-do_text-clause-answers : goal.returns-in-Ok-do_text-clause-answers
returns-in-Ok-do_text-clause-answers g c =
    done _ _ _ _ _ _ (text_in c.args.cert) _ _ c.in-Ok.ensures.told c.in-Ok.ensures.bytes c.in-Ok.ensures.within c.in-Ok-do_text.is (rw (c.in-Ok-from_utf8.ensures.cases.0, c.deref.ensures.value) at c.do_text.ensures.done)

pub returns-in-Err-HostFailed-clause-answers : goal.returns-in-Err-HostFailed-clause-answers
returns-in-Err-HostFailed-clause-answers g c =
    host_failed _ _ _ _ _ _ (text_in c.args.cert) _ c.in-Ok.ensures.told c.in-Ok.ensures.bytes c.in-Ok.ensures.within (c.in-Err-HostFailed.is ∙ ap Err c.in-Err-HostFailed.field-0-is)
    (rw (c.in-Ok-from_utf8.ensures.cases.0, c.deref.ensures.value) at c.do_text.ensures.done)

pub returns-clause-answers : goal.returns-clause-answers
returns-clause-answers g c =
    no_memory _ _ _ _ _ _ (text_in c.args.cert) _ c.in-Ok.ensures.told c.in-Ok.ensures.bytes c.in-Ok.ensures.within (rw (c.in-Ok-from_utf8.ensures.cases.0, c.deref.ensures.value) at c.do_text.ensures.done)

pub returns-in-Err-clause-answers : goal.returns-in-Err-clause-answers
returns-in-Err-clause-answers g c =
    not_text _ _ (g.P.Procedures.step (cover_of (λ x f. (goal.NumExt-dyn g (x.vtable, x.value)).covered x.value f) (λ x f. (goal.SignExt-dyn g (x.vtable, x.value)).handled x.value f) c.args.exts.now.num.now c.args.exts.now.num_on.now c.args.exts.now.sign.now c.args.exts.now.sign_on.now)) _ _ (text_in c.args.cert) c.in-Ok.ensures.told c.in-Ok.ensures.bytes c.in-Ok.ensures.within (rw c.deref.ensures.value at c.in-Err.ensures.cases.0)
