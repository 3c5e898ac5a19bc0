-- The words of the report.
use Rattle.std.specs.Prelude.{ℕ, List, [], ◌∷◌, ◌++◌, codes, decimal}
use Rattle.alg_law.specs.Declarations.{Declaration}
use Rattle.alg_build.specs.declared.outcome.TacFault.{TacFault}
use Rattle.alg_build.specs.declared.outcome.TacFault.TheVariants as procedure
use Rattle.alg_elaborate.specs.declared.causes.Cause.{Cause}
use Rattle.alg_elaborate.specs.declared.causes.Cause.TheVariants as command
use Rattle.alg_steps.specs.declared.notes.Note.{Note}
use Rattle.alg_steps.specs.declared.notes.Note.TheVariants as note
use Rattle.alg_show.specs.Text.{shown_text}
use Rattle.alg_report.specs.declared.causes.FailCause.{FailCause}
use Rattle.alg_report.specs.declared.causes.FailCause.TheVariants as cause
use Rattle.alg_report.specs.Judged.{Verdict, Closed, Open, Failed, Judged}

abbrev pub fault_text : TacFault → List ℕ
fault_text procedure.WrongStructure = codes "wrong structure"
fault_text procedure.NotThisGoal = codes "not a goal for this procedure"
fault_text procedure.OutOfRange = codes "out of range"
fault_text procedure.TooLarge = codes "too large"
fault_text procedure.SidesDiffer = codes "sides differ"
fault_text procedure.NoChange = codes "no change"
fault_text procedure.GoalFalse = codes "goal is false"
fault_text procedure.SignUnknown = codes "sign unknown"
fault_text procedure.Memory = codes "out of memory"

abbrev pub fail_text : FailCause → List ℕ
fail_text cause.NoGoals = codes "no goals"
fail_text (cause.Proc fault) = fault_text fault
fail_text cause.NotBuilt = codes "not built yet"

abbrev pub cause_text : Cause → List ℕ
cause_text command.Syntax = codes "syntax"
cause_text command.UnknownName = codes "unknown name"
cause_text command.NameTaken = codes "name taken"
cause_text command.SortMismatch = codes "sort mismatch"
cause_text command.NoInstance = codes "no instance"
cause_text command.UnknownProcedure = codes "unknown procedure"
cause_text command.BadCombination = codes "bad combination"
cause_text command.TooDeep = codes "too deep"
cause_text command.BadChar = codes "bad character"
cause_text command.OpenComment = codes "open comment"
cause_text command.LiteralTooWide = codes "literal too wide"

abbrev pub note_text : Note → List ℕ
note_text note.RingNf = codes "ring_nf"
note_text note.AbelNf = codes "abel_nf"

-- a line for each note of the goal with this label
abbrev pub notes_text : (label : List ℕ) → List Note → List ℕ
notes_text label [] = []
notes_text label (n ∷ ns) = (label ++ (codes ": Try this: " ++ (note_text n ++ codes "\n"))) ++ notes_text label ns

-- ⊢ as bytes
abbrev pub turnstile : List ℕ
turnstile = 0xE2 ∷ 0x8A ∷ 0xA2 ∷ []

-- a goal that stays open, with the text of the statement that is left
abbrev pub open_text : (label text : List ℕ) → List ℕ
open_text label text = label ++ (codes ": open\n  " ++ (turnstile ++ (codes " " ++ (text ++ codes "\n"))))

abbrev pub failed_text : (label : List ℕ) → (step : ℕ) → FailCause → List ℕ
failed_text label step why = label ++ (codes ": failed at step " ++ (decimal step ++ (codes ": " ++ (fail_text why ++ codes "\n"))))

abbrev pub verdict_text : (label : List ℕ) → List Declaration → Verdict → List ℕ
verdict_text label ds Closed = label ++ codes ": closed\n"
verdict_text label ds (Open s) = open_text label (shown_text ds s)
verdict_text label ds (Failed step why) = failed_text label step why

-- the entry of a goal over these declarations
abbrev pub judged_text : (label : List ℕ) → List Declaration → Judged → List ℕ
judged_text label ds j = notes_text label j.notes ++ verdict_text label ds j.verdict

abbrev pub error_text : (line : ℕ) → Cause → List ℕ
error_text line why = codes "line " ++ (decimal line ++ (codes ": error: " ++ (cause_text why ++ codes "\n")))
