-- What the check says.
use Rattle.std.specs.Prelude.{ℕ, List, [], ◌++◌, codes, decimal, Option, Some, None}
use Rattle.std.specs.List.{flat_map}
use Rattle.alg_terms.specs.declared.causes.BadCause.{BadCause}
use Rattle.alg_terms.specs.declared.causes.BadCause.TheVariants as cause
use Rattle.alg_check.specs.Findings.{Finding, no_goal, of_goal, tally_of}
use Rattle.alg_check.specs.declared.answers.Answer.{Answer}
use Rattle.alg_check.specs.declared.answers.Answer.TheVariants as answer
use Rattle.alg_check.specs.declared.tallies.Tally.{Tally}

abbrev pub cause_text : BadCause → List ℕ
cause_text cause.Reference = codes "bad reference"
cause_text cause.Name = codes "bad name"
cause_text cause.Sort = codes "bad sort"
cause_text cause.NoInstance = codes "no instance"
cause_text cause.Literal = codes "bad literal"
cause_text cause.Shape = codes "bad shape"

abbrev pub answer_text : (label : List ℕ) → Answer → List ℕ
answer_text label answer.BadGiven = label ++ codes ": refused: given is not a statement\n"
answer_text label (answer.BadLine n c) = label ++ (codes ": refused at line " ++ (decimal n ++ (codes ": " ++ (cause_text c ++ codes "\n"))))
answer_text label answer.WrongEnd = label ++ codes ": refused: last line is not the goal\n"
answer_text label (answer.AcceptedFrom text) = label ++ (codes ": accepted from " ++ (text ++ codes "\n"))
answer_text label answer.Accepted = label ++ codes ": accepted\n"

abbrev pub no_goal_text : ℕ → List ℕ
no_goal_text number = codes "goal " ++ (decimal number ++ codes ": refused: no such goal\n")

-- the line of an entry
abbrev pub finding_text : Finding → List ℕ
finding_text (no_goal number) = no_goal_text number
finding_text (of_goal label a) = answer_text label a

abbrev pub bad_text : ℕ → List ℕ
bad_text at = codes "certificate: bad at byte " ++ (decimal at ++ codes "\n")

abbrev pub fault_text : Option ℕ → List ℕ
fault_text None = []
fault_text (Some at) = bad_text at

abbrev pub last_text : Tally → List ℕ
last_text t = codes "accepted " ++ (decimal t.accepted ++ (codes ", refused " ++ (decimal t.refused ++ codes "\n")))

-- a line for each entry, and for the place where no line begins
abbrev pub lines_text : List Finding → Option ℕ → List ℕ
lines_text fs fault = flat_map finding_text fs ++ fault_text fault

-- all of it, with the last line
abbrev pub whole_text : List Finding → Option ℕ → List ℕ
whole_text fs fault = lines_text fs fault ++ last_text (tally_of fs fault)
