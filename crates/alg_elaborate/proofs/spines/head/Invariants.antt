use Rattle.std.proofs.Common.{◌≡◌, ◌+◌, ◌≤◌, ◌<◌, length}
use Rattle.alg_syntax.specs.Nodes.{tree_at}
use Rattle.alg_elaborate.specs.Raw.{arguments, head_of, none, count}
use Rattle.alg_elaborate.proofs.spines.head.Given as goal

abbrev pub invariant-down : goal.invariant-down
invariant-down l = record {
  in_nodes : l.at < length l.nodes;
  room : l.count + l.at ≤ l.id;
  head : head_of (tree_at l.nodes l.id) ≡ head_of (tree_at l.nodes l.at);
  counted : count (arguments (tree_at l.nodes l.id) none) ≡ l.count + count (arguments (tree_at l.nodes l.at) none);
}

abbrev pub decreases-down : goal.decreases-down
decreases-down l = l.at
