-- What a procedure of a script answers to a goal.
use Rattle.std.specs.Prelude.{List, Option}
use Rattle.alg_terms.specs.Tree.{Statement}
use Rattle.alg_law.specs.Declarations.{Declaration}
use Rattle.alg_parse.specs.Told.{Call}
use Rattle.alg_build.specs.Answer.{Answer, Closes, Leaves, Fails}
use Rattle.alg_steps.specs.declared.notes.Note.{Note}
use Rattle.alg_steps.specs.declared.answers.StepFault.{StepFault}
use Rattle.alg_steps.specs.declared.answers.StepFault.TheVariants as fault

-- the goal is closed, or another is left in its place, with the note that is printed; or nothing is made of it
pub data Stepped : Type 0 where
  closes : Option Note → Stepped
  leaves : Statement → Option Note → Stepped
  fails : StepFault → Stepped

-- what procedures answer, by the declarations in force, the call and the goal
abbrev pub Steps : Type 0
Steps = List Declaration → Call → Statement → Stepped

-- an answer with a note, which isn't printed where it is a fault
abbrev pub with_note : Option Note → Answer → Stepped
with_note n Closes = closes n
with_note n (Leaves s) = leaves s n
with_note n (Fails f) = fails (fault.Fails f)
