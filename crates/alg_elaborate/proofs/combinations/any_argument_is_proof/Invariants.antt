use Rattle.std.proofs.Common.{◌≡◌, ◌<◌, length}
use Rattle.alg_syntax.specs.Nodes.{tree_at}
use Rattle.alg_elaborate.specs.Raw.{arguments, none}
use Rattle.alg_elaborate.specs.Combinations.{any_proof}
use Rattle.alg_elaborate.proofs.combinations.any_argument_is_proof.Given as goal

abbrev pub invariant-down : goal.invariant-down
invariant-down l = record {
  in_nodes : l.at < length l.nodes;
  same : any_proof l.scope (arguments (tree_at l.nodes l.id) none) ≡ any_proof l.scope (arguments (tree_at l.nodes l.at) none);
}

abbrev pub decreases-down : goal.decreases-down
decreases-down l = l.at
