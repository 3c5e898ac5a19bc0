-- What a call of a procedure gives.
use Rattle.std.specs.Prelude.{◌≡◌, ◌≢◌, Option, Result, Ok, Err}
use Rattle.alg_expr.specs.Ids.{statement_of}
use Rattle.alg_build.specs.declared.outcome.Outcome.{Outcome}
use Rattle.alg_build.specs.declared.outcome.Outcome.TheVariants as outcome
use Rattle.alg_build.specs.declared.outcome.TacFault.{TacFault}
use Rattle.alg_build.specs.declared.outcome.TacFault.TheVariants.{Memory}
use Rattle.alg_build.specs.Book.{Book}
use Rattle.alg_steps.specs.declared.notes.Note.{Note}
use Rattle.alg_steps.specs.declared.answers.Made.{Made}
use Rattle.alg_steps.specs.declared.answers.StepFault.{StepFault}
use Rattle.alg_steps.specs.declared.answers.StepFault.TheVariants as fault
use Rattle.alg_steps.specs.Stepped.{Stepped, closes, leaves, fails}

-- what was made of a goal
abbrev pub stepped : Book → Outcome → Option Note → Stepped
stepped b (outcome.Closed line) note = closes note
stepped b (outcome.Left goal back) note = leaves (statement_of b.trees goal) note

-- the result is this answer; want of memory is free
abbrev pub GivesStep : Book → Result Made StepFault → Stepped → Type 0
GivesStep b (Ok m) t = t ≡ stepped b m.outcome m.note
GivesStep b (Err f) t = f ≢ fault.Fails Memory → t ≡ fails f

-- what a procedure made is handed on
abbrev pub IsOutcomeOf : Result Outcome TacFault → Result Made StepFault → Type 0
IsOutcomeOf (Ok o) (Ok m) = m.outcome ≡ o
IsOutcomeOf (Ok o) (Err f) = ⊥
IsOutcomeOf (Err f) (Ok m) = ⊥
IsOutcomeOf (Err f) (Err g) = g ≡ fault.Fails f
