-- What is left to check for faults, newest first.
use Rattle.std.specs.Prelude.{◌≡◌, ℕ, ◌+◌, ◌*◌, ◌<◌, ◌≤◌, List, [], ◌∷◌, ◌++◌, length, take, map, Bool, ⊤, Option, Some, None}
use Rattle.alg_syntax.specs.Expressions.{Tree}
use Rattle.alg_syntax.specs.Nodes.{tree_at}
use Rattle.alg_terms.specs.declared.sorts.Sort.{Sort}
use Rattle.alg_names.specs.declared.scope.Scope.{Scope}
use Rattle.alg_names.specs.InForce.{meaning}
use Rattle.alg_elaborate.specs.declared.causes.Cause.{Cause}
use Rattle.alg_elaborate.specs.declared.faults.Task.{Task}
use Rattle.alg_elaborate.specs.declared.faults.Task.TheVariants as task
use Rattle.alg_elaborate.specs.Raw.{none, meant, arguments, name_in, size, count}
use Rattle.alg_elaborate.specs.Meanings.{argument_sorts}
use Rattle.alg_elaborate.specs.Combinations.{is_proof}
use Rattle.alg_elaborate.specs.Faults.{not_integral, faults, faults_of_each, first}

-- which expressions are proofs
abbrev pub proofs_in : Scope → List Tree → List Bool
proofs_in s ts = map (λ t. is_proof s (meant t)) ts

-- the sorts of the arguments of the name with this number
abbrev pub sorts_for : Scope → List Tree → Sort → ℕ → List Sort
sorts_for s ts k h = argument_sorts k (meaning s (name_in (tree_at ts h)))

-- an expression, an exponent, or the first arguments of an application
abbrev pub task_faults : Scope → Bool → List Tree → Task → List Cause
task_faults s c ts (task.Expression k i) = faults s c k (meant (tree_at ts i))
task_faults s c ts (task.Exponent k i) = not_integral k ++ faults s c k (meant (tree_at ts i))
task_faults s c ts (task.Arguments k h n i) = faults_of_each s c (arguments (tree_at ts i) none) (take n (sorts_for s ts k h))

abbrev pub faults_of_all : Scope → Bool → List Tree → List Task → List Cause
faults_of_all s c ts [] = []
faults_of_all s c ts (t ∷ us) = task_faults s c ts t ++ faults_of_all s c ts us

-- a task's expression is there, and for arguments so many of them, no more than the function has
abbrev pub TaskIn : Scope → List Tree → Task → Type 0
TaskIn s ts (task.Expression k i) = i < length ts
TaskIn s ts (task.Exponent k i) = i < length ts
TaskIn s ts (task.Arguments k h n i) = (i < length ts) × (h < length ts) × (count (arguments (tree_at ts i) none) ≡ n) × (n ≤ length (sorts_for s ts k h))

abbrev pub TasksIn : Scope → List Tree → List Task → Type 0
TasksIn s ts [] = ⊤
TasksIn s ts (t ∷ us) = TaskIn s ts t × TasksIn s ts us

abbrev pub task_size : List Tree → Task → ℕ
task_size ts (task.Expression k i) = 3 * size (tree_at ts i) + 1
task_size ts (task.Exponent k i) = 3 * size (tree_at ts i) + 2
task_size ts (task.Arguments k h n i) = 3 * size (tree_at ts i)

abbrev pub tasks_size : List Tree → List Task → ℕ
tasks_size ts [] = 0
tasks_size ts (t ∷ us) = task_size ts t + tasks_size ts us

-- a fault that was found, or the first of what is left to check
abbrev pub first_or : Option Cause → List Cause → Option Cause
first_or (Some c) cs = Some c
first_or None cs = first cs
