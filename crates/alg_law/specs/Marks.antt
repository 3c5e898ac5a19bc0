-- One mark for each tree of an arena, as far as marks were made.
use Rattle.std.specs.Prelude.{◌≡◌, ℕ, ◌<◌, ◌≤◌, List, length, get_or}
use Rattle.alg_terms.specs.declared.sorts.Sort.TheVariants.{Nat}
use Rattle.alg_terms.specs.Tree.{Tree, Lit}
use Rattle.alg_law.specs.declared.marks.Mark.{Mark}
use Rattle.alg_law.specs.Declarations.{Declaration}
use Rattle.alg_law.specs.WellSorted.{mark_of}

-- the marks of the first trees, as many as there are marks
pub record HasMarks (ds : List Declaration) (ts : List Tree) (marks : List Mark) : Type 0 where
  pub within : length marks ≤ length ts
  pub each : (k : ℕ) (d : Mark) → k < length marks → get_or marks k d ≡ mark_of ds (get_or ts k (Lit Nat 0))
