-- What the check finds of the entries, in order, and how many it accepts.
use Rattle.std.specs.Prelude.{ℕ, ◌+◌, Bool, true, false, not, List, [], ◌∷◌, Option, Some, None, count_by}
use Rattle.alg_law.specs.Rows.{Row}
use Rattle.alg_check.specs.Entries.{Entry}
use Rattle.alg_check.specs.Goals.{Goal, goal_for}
use Rattle.alg_check.specs.Judging.{answer_to}
use Rattle.alg_check.specs.declared.answers.Answer.{Answer}
use Rattle.alg_check.specs.declared.answers.Answer.TheVariants as answer
use Rattle.alg_check.specs.declared.tallies.Tally.{Tally}

-- there is no such goal, or this is the answer for the goal with this label
pub data Finding : Type 0 where
  no_goal : (number : ℕ) → Finding
  of_goal : (label : List ℕ) → Answer → Finding

abbrev pub finding_for : List Row → Option Goal → Entry → Finding
finding_for rows None e = no_goal e.number
finding_for rows (Some g) e = of_goal g.label (answer_to rows g e)

-- what is found of an entry behind one with this number
abbrev pub finding_of : List Row → List Goal → (before : ℕ) → Entry → Finding
finding_of rows gs before e = finding_for rows (goal_for gs before e.number) e

-- each entry is looked at behind the number of the one before it, whether that was accepted or not
abbrev pub findings_from : List Row → List Goal → (before : ℕ) → List Entry → List Finding
findings_from rows gs before [] = []
findings_from rows gs before (e ∷ es) = finding_of rows gs before e ∷ findings_from rows gs e.number es

abbrev pub findings : List Row → List Goal → List Entry → List Finding
findings rows gs es = findings_from rows gs 0 es

abbrev pub accepts : Answer → Bool
accepts answer.BadGiven = false
accepts (answer.BadLine n c) = false
accepts answer.WrongEnd = false
accepts (answer.AcceptedFrom text) = true
accepts answer.Accepted = true

abbrev pub is_accepted : Finding → Bool
is_accepted (no_goal n) = false
is_accepted (of_goal label a) = accepts a

abbrev pub is_refused : Finding → Bool
is_refused f = not (is_accepted f)

-- a place where no line begins counts as one refused
abbrev pub faults : Option ℕ → ℕ
faults None = 0
faults (Some at) = 1

abbrev pub tally_of : List Finding → Option ℕ → Tally
tally_of fs fault = record { accepted = count_by is_accepted fs; refused = count_by is_refused fs + faults fault }
