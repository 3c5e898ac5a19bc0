-- The verdict is the outcome of following the lines one after another.
use Rattle.std.specs.Prelude.{◌≡◌, ℕ, suc, ◌++◌, List, [], ◌∷◌, length, Ok, Err, refl}
use Rattle.alg_terms.specs.declared.causes.BadCause.{BadCause}
use Rattle.alg_terms.specs.Tree.{Statement}
use Rattle.std.proofs.Common.{ap, sym}
use Rattle.alg_proof.specs.Causes.{Concludes}
use Rattle.alg_proof.specs.Steps.{Theory, Step, conclude}
use Rattle.alg_proof.specs.Valid.{go_on, verdict_from, verdict}
use Rattle.alg_kernel.specs.Progress.{Progress, Going, Stopped, after_line, advance, outcome}

pub advance-stopped : (th : Theory) (n : ℕ) (c : BadCause) (ls : List Step) → advance th (Stopped n c) ls ≡ Stopped n c
advance-stopped th n c [] = refl
advance-stopped th n c (l ∷ ls) = advance-stopped th n c ls

after-line : (th : Theory) (done : List Statement) (ls : List Step) (goal : Statement) (r : Concludes)
    → ((s : Statement) → verdict_from th (done ++ s ∷ []) ls goal ≡ outcome (advance th (Going (done ++ s ∷ [])) ls) goal)
    → go_on (suc (length done)) r (λ s. verdict_from th (done ++ s ∷ []) ls goal) ≡ outcome (advance th (after_line done r) ls) goal
after-line th done ls goal (Ok s) h = h s
after-line th done ls goal (Err c) h = ap (λ (p : Progress). outcome p goal) (sym (advance-stopped th (suc (length done)) c ls))

pub verdict_from-advance : (th : Theory) (done : List Statement) (ls : List Step) (goal : Statement) → verdict_from th done ls goal ≡ outcome (advance th (Going done) ls) goal
verdict_from-advance th done [] goal = refl
verdict_from-advance th done (l ∷ ls) goal = after-line th done ls goal (conclude th done l) (λ s. verdict_from-advance th (done ++ s ∷ []) ls goal)

pub verdict-advance : (th : Theory) (ls : List Step) (goal : Statement) → verdict th ls goal ≡ outcome (advance th (Going []) ls) goal
verdict-advance th ls goal = verdict_from-advance th [] ls goal
