use Rattle.std.proofs.Common.{inl}
use Rattle.alg_run.proofs.CheckAnswering.{checked, cut_short}
use Rattle.alg_run.proofs.checking.check_text.Goals as goal

pub returns-in-Ok-check_certificate-clause-done : goal.returns-in-Ok-check_certificate-clause-done
returns-in-Ok-check_certificate-clause-done g c =
    inl (checked _ _ c.in-Ok-read_file.file _ _ _ _ c.in-Ok-check_certificate.tally _ c.utf8.text c.in-Ok-read_file.ensures c.in-Ok.ensures.table c.check_certificate.ensures.says c.check_certificate.ensures.entries c.check_certificate.ensures.checks c.in-Ok-check_certificate.is c.all_accepted.ensures)

pub returns-in-Err-HostFailed-clause-done : goal.returns-in-Err-HostFailed-clause-done
returns-in-Err-HostFailed-clause-done g c = inl (cut_short _ _ c.in-Ok-read_file.file _ _ _ _ _ c.utf8.text c.in-Ok-read_file.ensures c.in-Ok.ensures.table c.check_certificate.ensures.says c.check_certificate.ensures.entries c.check_certificate.ensures.checks)

pub returns-clause-done : goal.returns-clause-done
returns-clause-done g c = inl (cut_short _ _ c.in-Ok-read_file.file _ _ _ _ _ c.utf8.text c.in-Ok-read_file.ensures c.in-Ok.ensures.table c.check_certificate.ensures.says c.check_certificate.ensures.entries c.check_certificate.ensures.checks)
