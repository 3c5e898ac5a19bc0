-- What holds of the lines that were checked so far.
use Rattle.std.specs.Prelude.{◌≡◌, List, [], All, Option, Some, None, IfSome, option_map, Result, Ok, Err, ⊤}
use Rattle.alg_terms.specs.Tree.{Tree, Statement}
use Rattle.alg_expr.specs.declared.ids.Stmt.{Stmt}
use Rattle.alg_expr.specs.Ids.{statement_of, statements_of, IsStatementIn}
use Rattle.alg_law.specs.Declarations.{Declaration}
use Rattle.alg_law.specs.Marks.{HasMarks}
use Rattle.alg_law.specs.WellSorted.{IsStatement}
use Rattle.alg_proof.specs.LemmaRows.{rows_of}
use Rattle.alg_proof.specs.Admissible.{AllFine, IsTheory}
use Rattle.alg_proof.specs.Steps.{Theory, Step}
use Rattle.alg_kernel.specs.declared.answers.Refusal.{Refusal}
use Rattle.alg_kernel.specs.declared.answers.Refusal.TheVariants as refusal
use Rattle.alg_kernel.specs.declared.grounds.Grounds.{Grounds}
use Rattle.alg_kernel.specs.declared.kernel.BadLine.{BadLine}
use Rattle.alg_kernel.specs.declared.kernel.Kernel.{Kernel}
use Rattle.alg_kernel.specs.Progress.{Progress, Going, Stopped, next, advance}

-- what a proof may rest on, over the trees of an arena
abbrev pub theory_of : List Tree → Grounds → Theory
theory_of ts g = record { declarations = g.base.now; lemmas = rows_of g.lemmas.now; given = option_map (statement_of ts) g.given }

-- the given statement is of this arena, and well sorted
abbrev pub IsGivenIn : List Declaration → List Tree → Option Stmt → Type 0
IsGivenIn ds ts g = IfSome g (λ s. IsStatementIn ts s × IsStatement ds (statement_of ts s))

-- these conclusions, or the bad line where there was one
abbrev pub reached : List Statement → Option BadLine → Progress
reached done None = Going done
reached done (Some b) = Stopped b.line b.cause

abbrev pub progress_of : List Tree → Kernel → Progress
progress_of ts k = reached (statements_of ts k.done.items) k.bad

-- the marks are right, the given statement and the conclusions are of this arena, and each conclusion is derivable
pub record IsSound (ts : List Tree) (k : Kernel) : Type 0 where
  pub marked : HasMarks k.grounds.base.now ts k.marks.items
  pub given : IsGivenIn k.grounds.base.now ts k.grounds.given
  pub done_in : All (IsStatementIn ts) k.done.items
  pub theory : IsTheory (theory_of ts k.grounds)
  pub fine : AllFine k.grounds.base.now (option_map (statement_of ts) k.grounds.given) (statements_of ts k.done.items)

-- a kernel that has checked nothing, over an arena that has the given statement
pub record IsFresh (g : Grounds) (k : Kernel) : Type 0 where
  pub grounds : k.grounds ≡ g
  pub sound : (ts : List Tree) → IsGivenIn g.base.now ts g.given → IsSound ts k
  pub nothing : (ts : List Tree) → progress_of ts k ≡ Going []

-- the answer to a line: good, or the first bad line; after want of memory nothing has changed
abbrev pub Answers : Theory → Progress → Step → Progress → Result (Unit {0}) Refusal → Type 0
Answers th old l new (Ok _) = (new ≡ next th old l) × ((done : List Statement) × (new ≡ Going done))
Answers th old l new (Err (refusal.Bad n c)) = (new ≡ next th old l) × (new ≡ Stopped n c)
Answers th old l new (Err refusal.WrongEnd) = ⊥
Answers th old l new (Err refusal.Memory) = new ≡ old

-- the answer to a list of lines
abbrev pub AnswersAll : Theory → Progress → List Step → Progress → Result (Unit {0}) Refusal → Type 0
AnswersAll th old ls new (Ok _) = new ≡ advance th old ls
AnswersAll th old ls new (Err (refusal.Bad n c)) = (advance th old ls ≡ Stopped n c) × (new ≡ Stopped n c)
AnswersAll th old ls new (Err refusal.WrongEnd) = ⊥
AnswersAll th old ls new (Err refusal.Memory) = ⊤
