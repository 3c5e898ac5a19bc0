-- Parts of a region that wait to be visited, the newest last.
use Rattle.std.specs.Prelude.{◌≡◌, ℕ, ◌+◌, ◌<◌, List, [], ◌∷◌, Bool, true, false, ◌||◌, Option, Some, None, ⊤}
use Rattle.alg_terms.specs.Tree.{Tree}
use Rattle.alg_expr.specs.declared.ids.ExprId.{ExprId}
use Rattle.alg_expr.specs.Ids.{tree_of, IsIn}
use Rattle.alg_show.specs.Knowing.{knows}
use Rattle.alg_show.specs.Tasks.{weigh}

-- a region of one of them has a leaf that is no literal
abbrev pub any_knows : List Tree → List ExprId → Bool
any_knows ts [] = false
any_knows ts (e ∷ es) = knows (tree_of ts e) || any_knows ts es

abbrev pub total : List Tree → List ExprId → ℕ
total ts [] = 0
total ts (e ∷ es) = weigh (tree_of ts e) + total ts es

abbrev pub AllIn : List Tree → List ExprId → Type 0
AllIn ts [] = ⊤
AllIn ts (e ∷ es) = IsIn ts e × AllIn ts es

-- an argument that belongs to the region
abbrev pub waits : Bool → Option ExprId → List ExprId
waits true (Some e) = e ∷ []
waits true None = []
waits false o = []

-- A visit of a tree: its region has such a leaf at once, or its parts wait in its place.
pub record Visited (ts : List Tree) (e : ExprId) (found : Bool) (old new : List ExprId) : Type 0 where
  pub same : (any_knows ts old || knows (tree_of ts e)) ≡ (found || any_knows ts new)
  pub less : total ts new < total ts old + weigh (tree_of ts e)
  pub inside : AllIn ts old → AllIn ts new
