use Rattle.std.proofs.Common.{◌∙◌, ap, Err}
use Rattle.alg_run.proofs.CheckAnswering.{no_load, too_long, no_memory_to_load, first_of, no_certificate, certificate_too_long, no_memory_for_certificate, both_of, not_text, done, host_failed, no_memory}
use Rattle.alg_run.proofs.checking.check.Goals as goal

pub returns-in-Err-Failed-clause-answers : goal.returns-in-Err-Failed-clause-answers
returns-in-Err-Failed-clause-answers g c = no_load _ _ c.args.file.now c.args.cert.now (rw c.in-Err-Failed.field-0-is at c.in-Err-Failed.ensures.told)

pub returns-in-Err-TooLong-clause-answers : goal.returns-in-Err-TooLong-clause-answers
returns-in-Err-TooLong-clause-answers g c =
    too_long _ _ _ c.args.file.now c.args.cert.now (rw c.in-Err-TooLong.field-0-is at c.in-Err-TooLong.ensures.told) (rw c.in-Err-TooLong.field-0-is at c.in-Err-TooLong.ensures.too_long)

pub returns-in-Err-Memory-clause-answers : goal.returns-in-Err-Memory-clause-answers
returns-in-Err-Memory-clause-answers g c =
    no_memory_to_load _ _ c.args.file.now c.args.cert.now (rw c.in-Err-Memory.field-0-is at c.in-Err-Memory.ensures.told)

pub returns-in-Err-Failed-load-clause-answers : goal.returns-in-Err-Failed-load-clause-answers
returns-in-Err-Failed-load-clause-answers g c =
    no_certificate _ _ _ c.args.file.now c.args.cert.now _ (first_of _ _ _ _ c.in-Ok.ensures.told c.in-Ok.ensures.bytes c.in-Ok.ensures.within) (rw c.in-Err-Failed-load.field-0-is at c.in-Err-Failed-load.ensures.told)

pub returns-in-Err-TooLong-load-clause-answers : goal.returns-in-Err-TooLong-load-clause-answers
returns-in-Err-TooLong-load-clause-answers g c =
    certificate_too_long _ _ _ _ c.args.file.now c.args.cert.now _ (first_of _ _ _ _ c.in-Ok.ensures.told c.in-Ok.ensures.bytes c.in-Ok.ensures.within) (rw c.in-Err-TooLong-load.field-0-is at c.in-Err-TooLong-load.ensures.told)
    (rw c.in-Err-TooLong-load.field-0-is at c.in-Err-TooLong-load.ensures.too_long)

pub returns-in-Err-Memory-load-clause-answers : goal.returns-in-Err-Memory-load-clause-answers
returns-in-Err-Memory-load-clause-answers g c =
    no_memory_for_certificate _ _ _ c.args.file.now c.args.cert.now _ (first_of _ _ _ _ c.in-Ok.ensures.told c.in-Ok.ensures.bytes c.in-Ok.ensures.within) (rw c.in-Err-Memory-load.field-0-is at c.in-Err-Memory-load.ensures.told)

pub returns-in-Err-clause-answers : goal.returns-in-Err-clause-answers
returns-in-Err-clause-answers g c =
    not_text _ _ _ c.args.file.now c.args.cert.now _ _ (both_of _ _ _ _ _ _ _ (first_of _ _ _ _ c.in-Ok.ensures.told c.in-Ok.ensures.bytes c.in-Ok.ensures.within) c.in-Ok-load.ensures.told c.in-Ok-load.ensures.bytes c.in-Ok-load.ensures.within)
    (rw c.deref.ensures.value at c.in-Err.ensures.cases.0)

pub returns-in-Ok-check_text-clause-answers : goal.returns-in-Ok-check_text-clause-answers
returns-in-Ok-check_text-clause-answers g c =
    done _ _ _ _ c.args.file.now c.args.cert.now _ _ _ _ (both_of _ _ _ _ _ _ _ (first_of _ _ _ _ c.in-Ok.ensures.told c.in-Ok.ensures.bytes c.in-Ok.ensures.within) c.in-Ok-load.ensures.told c.in-Ok-load.ensures.bytes c.in-Ok-load.ensures.within)
    c.in-Ok-check_text.is (rw (c.in-Ok-from_utf8.ensures.cases.0, c.deref.ensures.value, c.deref-2.ensures.value) at c.check_text.ensures.done)

pub returns-in-Err-HostFailed-clause-answers : goal.returns-in-Err-HostFailed-clause-answers
returns-in-Err-HostFailed-clause-answers g c =
    host_failed _ _ _ _ c.args.file.now c.args.cert.now _ _ _ (both_of _ _ _ _ _ _ _ (first_of _ _ _ _ c.in-Ok.ensures.told c.in-Ok.ensures.bytes c.in-Ok.ensures.within) c.in-Ok-load.ensures.told c.in-Ok-load.ensures.bytes c.in-Ok-load.ensures.within)
    (c.in-Err-HostFailed.is ∙ ap Err c.in-Err-HostFailed.field-0-is) (rw (c.in-Ok-from_utf8.ensures.cases.0, c.deref.ensures.value, c.deref-2.ensures.value) at c.check_text.ensures.done)

pub returns-clause-answers : goal.returns-clause-answers
returns-clause-answers g c =
    no_memory _ _ _ _ c.args.file.now c.args.cert.now _ _ _ (both_of _ _ _ _ _ _ _ (first_of _ _ _ _ c.in-Ok.ensures.told c.in-Ok.ensures.bytes c.in-Ok.ensures.within) c.in-Ok-load.ensures.told c.in-Ok-load.ensures.bytes c.in-Ok-load.ensures.within)
    (rw (c.in-Ok-from_utf8.ensures.cases.0, c.deref.ensures.value, c.deref-2.ensures.value) at c.check_text.ensures.done)
