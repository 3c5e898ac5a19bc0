-- What is left to build, newest first, over the trees that were built, newest last.
use Rattle.std.specs.Prelude.{◌≡◌, ℕ, suc, ◌+◌, ◌*◌, ◌<◌, ◌≤◌, ◌^◌, List, [], ◌∷◌, ◌++◌, length, take, drop, ⊤, Option, Some, None}
use Rattle.alg_terms.specs.declared.sorts.Sort.{Sort}
use Rattle.alg_terms.specs.Tree as terms
use Rattle.alg_syntax.specs.Expressions.{Tree}
use Rattle.alg_syntax.specs.Nodes.{tree_at}
use Rattle.alg_names.specs.declared.scope.Scope.{Scope}
use Rattle.alg_elaborate.specs.declared.building.Job.{Job}
use Rattle.alg_elaborate.specs.declared.building.Job.TheVariants as job
use Rattle.alg_elaborate.specs.declared.building.Leaf.{Leaf}
use Rattle.alg_elaborate.specs.declared.building.Leaf.TheVariants as leaf
use Rattle.alg_elaborate.specs.Raw.{none, meant, arguments, size, count}
use Rattle.alg_elaborate.specs.Tasks.{sorts_for}
use Rattle.alg_elaborate.specs.TypedTrees.{compound, typed, typed_each}

-- the trees after a job: one more, one in place of all from a number on, or the first arguments of an application more
abbrev pub step : Scope → List Tree → Job → List terms.Tree → List terms.Tree
step s ts (job.Down k i) vs = vs ++ typed s k (meant (tree_at ts i)) ∷ []
step s ts (job.Up f k n) vs = take n vs ++ compound f k (drop n vs) ∷ []
step s ts (job.Arguments k h n i) vs = vs ++ typed_each s (arguments (tree_at ts i) none) (take n (sorts_for s ts k h))

-- the trees when all is built
abbrev pub done : Scope → List Tree → List Job → List terms.Tree → List terms.Tree
done s ts [] vs = vs
done s ts (j ∷ js) vs = done s ts js (step s ts j vs)

-- so many trees are enough, and one is left in the end
abbrev pub Enough : List Job → ℕ → Type 0
Enough [] m = m ≡ 1
Enough (job.Down k i ∷ js) m = Enough js (suc m)
Enough (job.Up f k n ∷ js) m = (n ≤ m) × Enough js (suc n)
Enough (job.Arguments k h n i ∷ js) m = Enough js (m + n)

abbrev pub JobIn : Scope → List Tree → Job → Type 0
JobIn s ts (job.Down k i) = i < length ts
JobIn s ts (job.Up f k n) = ⊤
JobIn s ts (job.Arguments k h n i) = (i < length ts) × (h < length ts) × (count (arguments (tree_at ts i) none) ≡ n) × (n ≤ length (sorts_for s ts k h))

abbrev pub JobsIn : Scope → List Tree → List Job → Type 0
JobsIn s ts [] = ⊤
JobsIn s ts (j ∷ js) = JobIn s ts j × JobsIn s ts js

abbrev pub job_size : List Tree → Job → ℕ
job_size ts (job.Down k i) = 4 * size (tree_at ts i) + 2
job_size ts (job.Up f k n) = 1
job_size ts (job.Arguments k h n i) = 4 * size (tree_at ts i)

abbrev pub jobs_size : List Tree → List Job → ℕ
jobs_size ts [] = 0
jobs_size ts (j ∷ js) = job_size ts j + jobs_size ts js

abbrev pub leaf_tree : Sort → Leaf → terms.Tree
leaf_tree k (leaf.Literal n) = terms.Lit k n
leaf_tree k (leaf.Variable d) = terms.Var d k

-- a literal is below 2^127
abbrev pub IsSmall : Leaf → Type 0
IsSmall (leaf.Literal n) = n < 2 ^ 127
IsSmall (leaf.Variable d) = ⊤

-- a leaf that is to be built, or nothing
abbrev pub with_leaf : Sort → Option Leaf → List terms.Tree → List terms.Tree
with_leaf k None vs = vs
with_leaf k (Some l) vs = vs ++ leaf_tree k l ∷ []

abbrev pub leaves_in : Option Leaf → ℕ
leaves_in None = 0
leaves_in (Some l) = 1
