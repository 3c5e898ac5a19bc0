use Rattle.std.proofs.Common.{◌≡◌, ◌<◌, length}
use Rattle.alg_syntax.specs.Nodes.{tree_at}
use Rattle.alg_elaborate.specs.Raw.{meant}
use Rattle.alg_elaborate.specs.Regions.{exponent_default}
use Rattle.alg_elaborate.proofs.regions.exponent_default.Given as goal

abbrev pub invariant-down : goal.invariant-down
invariant-down l = record {
  in_nodes : l.at < length l.nodes;
  same : exponent_default (meant (tree_at l.nodes l.id)) ≡ exponent_default (meant (tree_at l.nodes l.at));
}

abbrev pub decreases-down : goal.decreases-down
decreases-down l = l.at
