-- How the steps of a proof are followed one by one.
use Rattle.std.specs.Prelude.{◌≡◌, ℕ, suc, ◌+◌, List, [], ◌∷◌, ◌++◌, length, map, All, Result, Ok, Err, ⊤}
use Rattle.alg_terms.specs.Tree.{Statement}
use Rattle.alg_proof.specs.Steps.{Theory, Step}
use Rattle.alg_certificate.specs.Spelling.{HasSpelling, step_bytes}
use Rattle.alg_kernel.specs.Progress.{Progress, Going, Stopped, outcome}
use Rattle.alg_proof.specs.Valid.{BadAt}
use Rattle.alg_terms.specs.declared.causes.BadCause.TheVariants as cause
use Rattle.alg_kernel.specs.declared.answers.Refusal.{Refusal}
use Rattle.alg_kernel.specs.declared.answers.Refusal.TheVariants as refusal
use Rattle.alg_certificate_lines.specs.declared.faults.LineFault.{LineFault}
use Rattle.alg_certificate_lines.specs.declared.faults.LineFault.TheVariants as fault
use Rattle.alg_check.specs.Judging.{conclude_written, judged}

-- all lines were good, and this is the number of the next
abbrev pub IsAt : ℕ → Progress → Type 0
IsAt n (Going done) = n ≡ length done + 1
IsAt n (Stopped k c) = ⊥

abbrev pub GoesOn : Theory → List Statement → Step → Progress → Type 0
GoesOn th done l (Going now) = (s : Statement) × (conclude_written th done l ≡ Ok s) × (now ≡ done ++ s ∷ [])
GoesOn th done l (Stopped k c) = ⊥

-- what a written step leads to; the first bad one has this number and cause
abbrev pub Follows : Theory → Progress → Step → Progress → Result (Unit {0}) Refusal → Type 0
Follows th (Going done) l new (Ok u) = GoesOn th done l new
Follows th (Going done) l new (Err (refusal.Bad n c)) = (n ≡ suc (length done)) × (conclude_written th done l ≡ Err c)
Follows th (Going done) l new (Err refusal.WrongEnd) = ⊥
Follows th (Going done) l new (Err refusal.Memory) = ⊤
Follows th (Stopped k c) l new r = ⊤

-- why a text that is no line is refused
abbrev pub refused_for : ℕ → LineFault → Refusal
refused_for n fault.BadName = refusal.Bad n cause.Name
refused_for n fault.BadSort = refusal.Bad n cause.Sort
refused_for n fault.NoInstance = refusal.Bad n cause.NoInstance
refused_for n fault.Memory = refusal.Memory

-- what all steps come to, or the first bad one
abbrev pub Judges : Theory → List Step → Statement → Progress → Result (Unit {0}) Refusal → Type 0
Judges th ls goal new (Ok u) = judged th ls goal ≡ outcome new goal
Judges th ls goal new (Err (refusal.Bad n c)) = judged th ls goal ≡ BadAt n c
Judges th ls goal new (Err refusal.WrongEnd) = ⊥
Judges th ls goal new (Err refusal.Memory) = ⊤

-- the texts are those of the steps
pub record Spell (ls : List Step) (ts : List (List ℕ)) : Type 0 where
  pub fit : All HasSpelling ls
  pub same : map step_bytes ls ≡ ts
