-- The parts of a region that wait to be visited, from left to right.
use Rattle.std.specs.Prelude.{ℕ, suc, ◌+◌, ◌*◌, ◌<◌, List, [], ◌∷◌, ◌++◌, ⊤}
use Rattle.alg_syntax.specs.Expressions.{Tree}
use Rattle.alg_syntax.specs.Nodes.{tree_at}
use Rattle.alg_names.specs.declared.scope.Scope.{Scope}
use Rattle.alg_elaborate.specs.declared.regions.Part.{Part}
use Rattle.alg_elaborate.specs.declared.regions.Part.TheVariants as part
use Rattle.alg_elaborate.specs.Raw.{Raw, none, meant, arguments, size}
use Rattle.alg_elaborate.specs.Regions.{leaves, leaves_of_each}

-- an expression, or the arguments of an application
abbrev pub part_leaves : Scope → List Tree → Part → List Raw
part_leaves s ts (part.Whole i) = leaves s (meant (tree_at ts i))
part_leaves s ts (part.Arguments i) = leaves_of_each s (arguments (tree_at ts i) none)

abbrev pub parts_leaves : Scope → List Tree → List Part → List Raw
parts_leaves s ts [] = []
parts_leaves s ts (p ∷ ps) = part_leaves s ts p ++ parts_leaves s ts ps

abbrev pub PartIn : ℕ → Part → Type 0
PartIn n (part.Whole i) = i < n
PartIn n (part.Arguments i) = i < n

abbrev pub PartsIn : ℕ → List Part → Type 0
PartsIn n [] = ⊤
PartsIn n (p ∷ ps) = PartIn n p × PartsIn n ps

abbrev pub part_size : List Tree → Part → ℕ
part_size ts (part.Whole i) = suc (2 * size (tree_at ts i))
part_size ts (part.Arguments i) = 2 * size (tree_at ts i)

abbrev pub parts_size : List Tree → List Part → ℕ
parts_size ts [] = 0
parts_size ts (p ∷ ps) = part_size ts p + parts_size ts ps
