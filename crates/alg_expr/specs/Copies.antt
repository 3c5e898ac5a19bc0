-- The walk that copies a tree into another arena.
use Rattle.std.specs.Prelude.{◌≡◌, ℕ, ◌<◌, ◌+◌, ◌-◌, ◌*◌, List, length, get_or, All, Contains, Some, None, nat_eq, if◌then◌else◌, is_some, Bool}
use Rattle.indexmap.specs.IndexMap.{IndexMap, get, index_map_len}
use Rattle.alg_terms.specs.declared.sorts.Sort.TheVariants.{Nat}
use Rattle.alg_terms.specs.Tree.{Tree, Lit}
use Rattle.alg_expr.specs.declared.ids.ExprId.{ExprId}
use Rattle.alg_expr.specs.declared.importing.Copied.{Copied}
use Rattle.alg_expr.specs.declared.importing.Copied.TheVariants as copied
use Rattle.alg_expr.specs.declared.importing.Parts.{Parts}
use Rattle.alg_expr.specs.declared.importing.Parts.TheVariants as parts
use Rattle.alg_expr.specs.Ids.{tree_of, IsIn, trees_at}
use Rattle.alg_expr.specs.Arena.{Imports}

-- the id e stands in ts for the tree that has the number k in fs
pub record IsCopy (fs ts : List Tree) (k : ℕ) (e : ExprId) : Type 0 where
  pub within : k < length fs
  pub here : IsIn ts e
  pub tree : tree_of ts e ≡ get_or fs k (Lit Nat 0)

module _ {S : Type 0} where
  -- each entry of the table is a copy
  abbrev pub AreCopies : List Tree → List Tree → IndexMap ℕ ExprId S → Type 0
  AreCopies fs ts m = (k : ℕ) (e : ExprId) → get nat_eq m k ≡ Some e → IsCopy fs ts k e

  -- a try to copy one node: its copy, or a part that comes before it and has none
  abbrev pub Copies : List Tree → List Tree → List Tree → IndexMap ℕ ExprId S → ExprId → Copied → Type 0
  Copies fs old new m id (copied.Made e) = Imports old new e (tree_of fs id)
  Copies fs old new m id (copied.Missing p) = (new ≡ old) × (p.index < id.index) × (get nat_eq m p.index ≡ None)

  -- the copies of all parts, or a part that has none
  abbrev pub HasParts : List Tree → List Tree → IndexMap ℕ ExprId S → List ExprId → Parts → Type 0
  HasParts fs ts m args (parts.All copies) = (trees_at ts copies.items ≡ trees_at fs args) × All (IsIn ts) copies.items
  HasParts fs ts m args (parts.Missing p) = Contains args p × (get nat_eq m p.index ≡ None)

-- the tree that is to be copied next
abbrev pub next_of : List ExprId → ExprId → ExprId
next_of es e = get_or es (length es - 1) e

-- the weight of the tree that is next, more where it has a copy
abbrev pub weight : Bool → ℕ → ℕ → ℕ
weight has_copy n i = if has_copy then 2 * n + 2 else 2 * i

-- the steps that are left: every tree of the other arena that has no copy may take as many as there are trees
abbrev pub steps_left : {S : Type 0} → ℕ → IndexMap ℕ ExprId S → List ExprId → ExprId → ℕ
steps_left n m pending id =
    (n - index_map_len m) * (2 * n + 3) + (length pending + weight (is_some (get nat_eq m (next_of pending id).index)) n (next_of pending id).index)
