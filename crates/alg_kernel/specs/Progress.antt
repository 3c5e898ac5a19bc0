-- How far a list of lines was followed.
use Rattle.std.specs.Prelude.{ℕ, suc, ◌-◌, List, [], ◌∷◌, ◌++◌, length, slice_get, Ok, Err}
use Rattle.alg_terms.specs.declared.causes.BadCause.{BadCause}
use Rattle.alg_terms.specs.Tree.{Statement}
use Rattle.alg_proof.specs.Causes.{Concludes}
use Rattle.alg_proof.specs.Steps.{Theory, Step, conclude}
use Rattle.alg_proof.specs.Valid.{Verdict, BadAt, ends_in}

-- all lines were good, with their conclusions; or the first bad line, with its cause
pub data Progress : Type 0 where
  Going : List Statement → Progress
  Stopped : ℕ → BadCause → Progress

abbrev pub after_line : List Statement → Concludes → Progress
after_line done (Ok s) = Going (done ++ s ∷ [])
after_line done (Err c) = Stopped (suc (length done)) c

-- one more line
abbrev pub next : Theory → Progress → Step → Progress
next th (Going done) l = after_line done (conclude th done l)
next th (Stopped n c) l = Stopped n c

abbrev pub advance : Theory → Progress → List Step → Progress
advance th p [] = p
advance th p (l ∷ ls) = advance th (next th p l) ls

-- what the lines so far come to
abbrev pub outcome : Progress → Statement → Verdict
outcome (Going done) goal = ends_in (slice_get done (length done - 1)) goal
outcome (Stopped n c) goal = BadAt n c
