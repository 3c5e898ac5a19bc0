-- What becomes of a goal under a script.
use Rattle.std.specs.Prelude.{ℕ, ◌+◌, List, [], ◌∷◌, ◌++◌, Option, None, Some}
use Rattle.alg_terms.specs.Tree.{Statement}
use Rattle.alg_law.specs.Declarations.{Declaration}
use Rattle.alg_parse.specs.Told.{Call}
use Rattle.alg_steps.specs.declared.notes.Note.{Note}
use Rattle.alg_steps.specs.declared.answers.StepFault.{StepFault}
use Rattle.alg_steps.specs.declared.answers.StepFault.TheVariants as fault
use Rattle.alg_steps.specs.Stepped.{Stepped, closes, leaves, fails, Steps}
use Rattle.alg_report.specs.declared.causes.FailCause.{FailCause}
use Rattle.alg_report.specs.declared.causes.FailCause.TheVariants as cause

pub data Verdict : Type 0 where
  Closed : Verdict
  -- this statement is left
  Open : Statement → Verdict
  -- the procedure of this number, from 1, fails
  Failed : (step : ℕ) → FailCause → Verdict

-- the notes up to the end, the first one first, and the end
pub record Judged : Type 0 where
  pub notes : List Note
  pub verdict : Verdict

abbrev pub ends : Verdict → Judged
ends v = record { notes = []; verdict = v }

abbrev pub listed : Option Note → List Note
listed None = []
listed (Some n) = n ∷ []

-- with these notes before
abbrev pub noting : List Note → Judged → Judged
noting ns j = record { notes = ns ++ j.notes; verdict = j.verdict }

abbrev pub cause_of : StepFault → FailCause
cause_of (fault.Fails f) = cause.Proc f
cause_of fault.NotBuilt = cause.NotBuilt

-- what comes of step n, and then of the rest on what it leaves: nothing, or a statement
abbrev pub after : ℕ → Stepped → (Option Statement → Judged) → Judged
after n (closes note) rest = noting (listed note) (rest None)
after n (leaves s note) rest = noting (listed note) (rest (Some s))
after n (fails f) rest = ends (Failed n (cause_of f))

-- the procedures from step n on, in order, on the statement that is left, if one is
abbrev pub judged_from : Steps → List Declaration → ℕ → Option Statement → List Call → Judged
judged_from f ds n None [] = ends Closed
judged_from f ds n (Some s) [] = ends (Open s)
judged_from f ds n None (c ∷ cs) = ends (Failed n cause.NoGoals)
judged_from f ds n (Some s) (c ∷ cs) = after n (f ds c s) (λ o. judged_from f ds (n + 1) o cs)

-- The whole script of a goal. No script is without a procedure.
unfoldable pub judged_of : Steps → List Declaration → Statement → List Call → Judged
judged_of f ds s [] = ends (Failed 1 cause.NoGoals)
judged_of f ds s (c ∷ cs) = judged_from f ds 1 (Some s) (c ∷ cs)
