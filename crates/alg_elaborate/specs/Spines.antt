-- What a walk down an application finds.
use Rattle.std.specs.Prelude.{◌≡◌, ℕ, ◌<◌, List, length, Option, Some, None}
use Rattle.alg_syntax.specs.Expressions.{Tree}
use Rattle.alg_syntax.specs.Nodes.{tree_at}
use Rattle.alg_elaborate.specs.Raw.{head_of, name_in}

-- the name that is applied, by its number
abbrev pub IsHead : List Tree → Tree → Option ℕ → Type 0
IsHead ts t None = head_of t ≡ None
IsHead ts t (Some h) = (h < length ts) × (head_of t ≡ Some (name_in (tree_at ts h)))
