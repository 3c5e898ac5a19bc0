use Rattle.std.proofs.Common.{◌≡◌, length, reverse}
use Rattle.alg_syntax.specs.Nodes.{tree_at}
use Rattle.alg_elaborate.specs.Raw.{meant}
use Rattle.alg_elaborate.specs.Regions.{leaves, first_known}
use Rattle.alg_elaborate.specs.RegionParts.{PartsIn, parts_size, parts_leaves}
use Rattle.alg_elaborate.proofs.regions.first_known.Given as goal

abbrev pub invariant-leaves : goal.invariant-leaves
invariant-leaves l = record {
  within : PartsIn (length l.nodes) (reverse l.todo.items);
  seeks : first_known l.scope (leaves l.scope (meant (tree_at l.nodes l.id))) ≡ first_known l.scope (parts_leaves l.scope l.nodes (reverse l.todo.items));
}

abbrev pub decreases-leaves : goal.decreases-leaves
decreases-leaves l = parts_size l.nodes (reverse l.todo.items)
