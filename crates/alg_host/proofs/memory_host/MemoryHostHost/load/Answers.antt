use Rattle.std.proofs.Common.{refl}
use Rattle.alg_host.proofs.memory_host.MemoryHostHost.load.Goals as goal

pub returns-else-is_err-3-clause-fails : goal.returns-else-is_err-3-clause-fails
returns-else-is_err-3-clause-fails c =
    let fails = rw (c.in-Err-Failed.is, c.in-Err-Failed.field-0-is, c.deref.ensures.value, c.number_after-number.ensures) at c.answer_to_load.ensures.fails in
    λ other. (λ failed. fails.0 failed, λ told. refl)
