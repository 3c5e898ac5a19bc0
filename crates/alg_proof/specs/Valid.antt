-- Which lists of proof lines are valid, and where and why another isn't.
use Rattle.std.specs.Prelude.{◌≡◌, ℕ, suc, ◌-◌, if◌then◌else◌, List, [], ◌∷◌, ◌++◌, length, Option, Some, None, Ok, Err, slice_get}
use Rattle.alg_terms.specs.declared.causes.BadCause.{BadCause}
use Rattle.alg_terms.specs.Tree.{Statement}
use Rattle.alg_proof.specs.Causes.{Concludes, statement_same}
use Rattle.alg_proof.specs.Steps.{Theory, Step, conclude}

-- what a list of lines comes to
pub data Verdict : Type 0 where
  Accepted : Verdict
  BadAt : ℕ → BadCause → Verdict
  EndsWrong : Verdict

abbrev pub ends_in : Option Statement → Statement → Verdict
ends_in None s = EndsWrong
ends_in (Some a) s = if statement_same a s then Accepted else EndsWrong

-- goes on with the conclusion of line n, or is bad there
abbrev pub go_on : ℕ → Concludes → (Statement → Verdict) → Verdict
go_on n (Ok s) k = k s
go_on n (Err c) k = BadAt n c

-- the lines after those that were done
abbrev pub verdict_from : Theory → List Statement → List Step → Statement → Verdict
verdict_from th done [] goal = ends_in (slice_get done (length done - 1)) goal
verdict_from th done (l ∷ ls) goal =
    go_on (suc (length done)) (conclude th done l) (λ s. verdict_from th (done ++ s ∷ []) ls goal)

abbrev pub verdict : Theory → List Step → Statement → Verdict
verdict th steps goal = verdict_from th [] steps goal

-- every line is good by the lines before it, and the last concludes the goal
abbrev pub IsValid : Theory → List Step → Statement → Type 0
IsValid th steps goal = verdict th steps goal ≡ Accepted
