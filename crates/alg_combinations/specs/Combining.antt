-- What is left to combine, newest first.
use Rattle.std.specs.Prelude.{ℕ, ◌+◌, ◌*◌, ◌<◌, List, [], ◌∷◌, ◌++◌, ⊤, Option, Some, None}
use Rattle.alg_terms.specs.declared.sorts.Sort.{Sort}
use Rattle.alg_law.specs.declared.combo.ComboStep.{ComboStep}
use Rattle.alg_law.specs.declared.combo.ComboStep.TheVariants as step
use Rattle.alg_law.specs.Combinations.{Part, hypothesis, expression, negative}
use Rattle.alg_syntax.specs.declared.signs.Operator.{Operator}
use Rattle.alg_syntax.specs.declared.signs.Operator.TheVariants.{Add, Sub, Mul, Div, Mod, Smul, Pow}
use Rattle.alg_syntax.specs.Expressions.{Tree}
use Rattle.alg_syntax.specs.Nodes.{tree_at}
use Rattle.alg_names.specs.declared.scope.Scope.{Scope}
use Rattle.alg_elaborate.specs.Raw.{Raw, meant, size}
use Rattle.alg_elaborate.specs.TypedTrees.{typed}
use Rattle.alg_combinations.specs.declared.combining.Job.{Job}
use Rattle.alg_combinations.specs.declared.combining.Job.TheVariants as job
use Rattle.alg_combinations.specs.declared.combining.Leaf.{Leaf}
use Rattle.alg_combinations.specs.declared.combining.Leaf.TheVariants as leaf
use Rattle.alg_combinations.specs.Combined.{joint, combined}

-- the parts that are left
abbrev pub left_of : Scope → Sort → List Tree → List Job → List Part
left_of s k ts [] = []
left_of s k ts (job.Down i ∷ js) = combined s k (meant (tree_at ts i)) ++ left_of s k ts js
left_of s k ts (job.Negate ∷ js) = negative ∷ left_of s k ts js
left_of s k ts (job.Join o ∷ js) = joint o ∷ left_of s k ts js

abbrev pub JobIn : ℕ → Job → Type 0
JobIn n (job.Down i) = i < n
JobIn n job.Negate = ⊤
JobIn n (job.Join o) = ⊤

abbrev pub JobsIn : ℕ → List Job → Type 0
JobsIn n [] = ⊤
JobsIn n (j ∷ js) = JobIn n j × JobsIn n js

abbrev pub job_size : List Tree → Job → ℕ
job_size ts (job.Down i) = 2 * size (tree_at ts i)
job_size ts job.Negate = 1
job_size ts (job.Join o) = 1

abbrev pub jobs_size : List Tree → List Job → ℕ
jobs_size ts [] = 0
jobs_size ts (j ∷ js) = job_size ts j + jobs_size ts js

abbrev pub leaf_of : Scope → Sort → Raw → Leaf → Part
leaf_of s k r (leaf.Hypothesis n) = hypothesis n
leaf_of s k r leaf.Expression = expression (typed s k r)

-- a leaf of this expression that is to be built now, or nothing
abbrev pub with_leaf : Scope → Sort → Raw → Option Leaf → List Part → List Part
with_leaf s k r None xs = xs
with_leaf s k r (Some l) xs = leaf_of s k r l ∷ xs

-- the step of an operation
abbrev pub step_of : Operator → ComboStep
step_of Add = step.Add
step_of Sub = step.Sub
step_of Mul = step.Mul
step_of Div = step.Div
step_of Mod = step.Add
step_of Smul = step.Add
step_of Pow = step.Add
