-- The report on a file: an entry for each goal and each faulty command, and the last line.
use Rattle.std.specs.Prelude.{ℕ, List, [], ◌∷◌, ◌++◌, take, Bool, true, false, count_by}
use Rattle.std.specs.List.{flat_map}
use Rattle.alg_elaborate.specs.declared.causes.Cause.{Cause}
use Rattle.alg_terms.specs.Tree.{Statement}
use Rattle.alg_law.specs.Declarations.{Declaration}
use Rattle.alg_parse.specs.Told.{Told}
use Rattle.alg_parse.specs.Told as told
use Rattle.alg_steps.specs.Stepped.{Steps}
use Rattle.alg_report.specs.declared.tally.Tally.{Tally}
use Rattle.alg_report.specs.Judged.{Verdict, Closed, Open, Failed, Judged, judged_of}
use Rattle.alg_report.specs.Tallies.{tally_text, IsClear}
use Rattle.alg_report.specs.Texts.{judged_text, error_text}

-- a goal over the first declarations of the file, and its own
pub record Goal : Type 0 where
  pub prefix : ℕ
  pub local : List Declaration
  pub statement : Statement

-- what is in force for a goal, where the file's shared declarations are these
abbrev pub in_force : List Declaration → Goal → List Declaration
in_force shared g = take g.prefix shared ++ g.local

-- what the report says of a command: what becomes of a goal, by its label, or the first cause of a faulty one by its line
pub data Finding : Type 0 where
  of_goal : (label : List ℕ) → Goal → Judged → Finding
  of_fault : (line : ℕ) → Cause → Finding

-- declarations have no entry
abbrev pub findings_at : Steps → List Declaration → Told → List Finding
findings_at f shared told.declares = []
findings_at f shared (told.goal label line prefix local statement calls) =
    of_goal label (record { prefix = prefix; local = local; statement = statement }) (judged_of f (take prefix shared ++ local) statement calls) ∷ []
findings_at f shared (told.faulty line cause) = of_fault line cause ∷ []

-- what is found of a file whose commands tell this
abbrev pub findings_of : Steps → List Declaration → List Told → List Finding
findings_of f shared ts = flat_map (findings_at f shared) ts

abbrev pub entry_text : List Declaration → Finding → List ℕ
entry_text shared (of_goal label g j) = judged_text label (in_force shared g) j
entry_text shared (of_fault line cause) = error_text line cause

abbrev pub entry_texts : List Declaration → List Finding → List ℕ
entry_texts shared fs = flat_map (entry_text shared) fs

abbrev pub has_closed : Verdict → Bool
has_closed Closed = true
has_closed (Open s) = false
has_closed (Failed step cause) = false

abbrev pub has_left : Verdict → Bool
has_left Closed = false
has_left (Open s) = true
has_left (Failed step cause) = false

abbrev pub has_failed : Verdict → Bool
has_failed Closed = false
has_failed (Open s) = false
has_failed (Failed step cause) = true

abbrev pub is_closed : Finding → Bool
is_closed (of_goal label g j) = has_closed j.verdict
is_closed (of_fault line cause) = false

abbrev pub is_open : Finding → Bool
is_open (of_goal label g j) = has_left j.verdict
is_open (of_fault line cause) = false

abbrev pub is_failed : Finding → Bool
is_failed (of_goal label g j) = has_failed j.verdict
is_failed (of_fault line cause) = false

abbrev pub is_error : Finding → Bool
is_error (of_goal label g j) = false
is_error (of_fault line cause) = true

abbrev pub tally_of : List Finding → Tally
tally_of fs = record { closed = count_by is_closed fs; left = count_by is_open fs; failed = count_by is_failed fs; errors = count_by is_error fs }

abbrev pub last_line_of : List Finding → List ℕ
last_line_of fs = tally_text (tally_of fs)

-- the report on what was found
abbrev pub report_over : List Declaration → List Finding → List ℕ
report_over shared fs = entry_texts shared fs ++ last_line_of fs

-- the report on a file whose commands tell this
abbrev pub report_of : Steps → List Declaration → List Told → List ℕ
report_of f shared ts = report_over shared (findings_of f shared ts)

-- every goal is closed and no command is faulty
abbrev pub IsAllClosed : List Finding → Type 0
IsAllClosed fs = IsClear (tally_of fs)
