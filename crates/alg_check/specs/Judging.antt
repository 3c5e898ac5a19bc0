-- What an entry comes to, over its goal.
use Rattle.std.specs.Prelude.{ℕ, suc, ◌+◌, ◌-◌, ◌^◌, nat_le, List, [], ◌∷◌, ◌++◌, length, Option, Some, None, Result, Ok, Err, slice_get, option_map, if◌then◌else◌}
use Rattle.alg_terms.specs.declared.causes.BadCause.{BadCause}
use Rattle.alg_terms.specs.Tree.{Statement, node_count}
use Rattle.alg_law.specs.Declarations.{Declaration}
use Rattle.alg_law.specs.Rows.{Row}
use Rattle.alg_proof.specs.Causes.{Concludes}
use Rattle.alg_proof.specs.Steps.{Theory, Step, conclude}
use Rattle.alg_proof.specs.Valid.{Verdict, Accepted, BadAt, EndsWrong, ends_in, go_on}
use Rattle.alg_show.specs.Text.{shown_text}
use Rattle.alg_check.specs.Entries.{Entry}
use Rattle.alg_check.specs.Goals.{Goal}
use Rattle.alg_check.specs.Meant.{meant, meant_statement}
use Rattle.alg_check.specs.declared.answers.Answer.{Answer}
use Rattle.alg_check.specs.declared.answers.Answer.TheVariants as answer

abbrev pub conclude_meant : Theory → List Statement → Result Step BadCause → Concludes
conclude_meant th done (Ok l) = conclude th done l
conclude_meant th done (Err c) = Err c

-- what a written step concludes after these lines, or the first cause for which it is bad
abbrev pub conclude_written : Theory → List Statement → Step → Concludes
conclude_written th done l = conclude_meant th done (meant th.declarations l)

-- the verdict on written steps, after those that were done
abbrev pub judged_from : Theory → List Statement → List Step → Statement → Verdict
judged_from th done [] goal = ends_in (slice_get done (length done - 1)) goal
judged_from th done (l ∷ ls) goal =
    go_on (suc (length done)) (conclude_written th done l) (λ s. judged_from th (done ++ s ∷ []) ls goal)

abbrev pub judged : Theory → List Step → Statement → Verdict
judged th ls goal = judged_from th [] ls goal

-- the given statement, where both sides together have at most 2^20 nodes
abbrev pub if_small : Option Statement → Option Statement
if_small None = None
if_small (Some s) = if nat_le (node_count s.lhs + node_count s.rhs) (2 ^ 20) then Some s else None

-- the given statement comes as its text
abbrev pub acceptance : Option (List ℕ) → Answer
acceptance None = answer.Accepted
acceptance (Some text) = answer.AcceptedFrom text

abbrev pub of_verdict : Option (List ℕ) → Verdict → Answer
of_verdict given Accepted = acceptance given
of_verdict given (BadAt n c) = answer.BadLine n c
of_verdict given EndsWrong = answer.WrongEnd

-- what a proof may rest on
abbrev pub theory_for : List Row → List Declaration → Option Statement → Theory
theory_for rows ds given = record { declarations = ds; lemmas = rows; given = given }

abbrev pub answer_from : List Row → List Declaration → (goal : Statement) → List Step → Option Statement → Answer
answer_from rows ds goal ls given = of_verdict (option_map (shown_text ds) given) (judged (theory_for rows ds given) ls goal)

abbrev pub if_given : List Row → List Declaration → (goal : Statement) → List Step → Option Statement → Answer
if_given rows ds goal ls None = answer.BadGiven
if_given rows ds goal ls (Some s) = answer_from rows ds goal ls (Some s)

-- the answer to a proof of the goal, with the given statement as it is written
abbrev pub answer_over : List Row → List Declaration → (goal : Statement) → (given : Option Statement) → List Step → Answer
answer_over rows ds goal None ls = answer_from rows ds goal ls None
answer_over rows ds goal (Some s) ls = if_given rows ds goal ls (if_small (meant_statement ds s))

abbrev pub answer_to : List Row → Goal → Entry → Answer
answer_to rows g e = answer_over rows g.declarations g.statement e.given e.steps
