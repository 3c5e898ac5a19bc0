use Rattle.alg_run.proofs.Answering.{asked_nothing, no_memory_for_words}
use Rattle.alg_run.proofs.program.work.Goals as goal

pub returns-in-Ok-Usage-clause-answers : goal.returns-in-Ok-Usage-clause-answers
returns-in-Ok-Usage-clause-answers g c = asked_nothing _ _ _ _ (rw c.in-Ok-Usage.field-0-is at c.in-Ok-Usage.ensures.job)

pub returns-in-Err-clause-answers : goal.returns-in-Err-clause-answers
returns-in-Err-clause-answers g c = no_memory_for_words _ _ _
