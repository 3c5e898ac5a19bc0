-- What a procedure answers, as a step of a script.
use Rattle.std.proofs.Common.{◌≡◌, ap}
use Rattle.std.specs.Prelude.{◌≢◌, Option, Ok}
use Rattle.alg_build.specs.declared.outcome.Outcome.{Outcome}
use Rattle.alg_build.specs.declared.outcome.Outcome.TheVariants as outcome
use Rattle.alg_build.specs.declared.outcome.TacFault.{TacFault}
use Rattle.alg_build.specs.declared.outcome.TacFault.TheVariants.{Memory}
use Rattle.alg_build.specs.Answer.{Answer, FailsBy, Gives}
use Rattle.alg_build.specs.Book.{Book}
use Rattle.alg_build.proofs.AnswerLemmas.{fails-is}
use Rattle.alg_steps.specs.declared.notes.Note.{Note}
use Rattle.alg_steps.specs.declared.answers.StepFault.TheVariants as fault
use Rattle.alg_steps.specs.Stepped.{with_note, fails}
use Rattle.alg_steps.specs.Giving.{stepped}

pub made_gives : (b : Book) (o : Outcome) (note : Option Note) (a : Answer) → Gives b (Ok o) a → with_note note a ≡ stepped b o note
made_gives b (outcome.Closed line) note a h = ap (with_note note) h
made_gives b (outcome.Left goal back) note a h = ap (with_note note) h

pub fault_gives : (f : TacFault) (note : Option Note) (a : Answer) → FailsBy f a → fault.Fails f ≢ fault.Fails Memory → with_note note a ≡ fails (fault.Fails f)
fault_gives f note a h other = ap (with_note note) (fails-is f a (λ e. other (ap (λ x. fault.Fails x) e)) h)
