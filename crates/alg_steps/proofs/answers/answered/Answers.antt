use Rattle.alg_steps.proofs.Stepping.{made_gives, fault_gives}
use Rattle.alg_steps.proofs.answers.answered.Goals as goal

pub returns-in-Ok-clause-gives : goal.returns-in-Ok-clause-gives
returns-in-Ok-clause-gives c = λ b a h. made_gives b c.in-Ok.outcome c.args.note a (rw c.in-Ok.is at h)

pub returns-in-Err-clause-gives : goal.returns-in-Err-clause-gives
returns-in-Err-clause-gives c = λ b a h. λ other. fault_gives c.in-Err.fault c.args.note a (rw c.in-Err.is at h) other
