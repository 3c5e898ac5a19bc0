use Rattle.std.proofs.Common.{◌≡◌, ◌≤◌, ◌-◌, length, take}
use Rattle.alg_elaborate.specs.Tasks.{proofs_in}
use Rattle.alg_elaborate.proofs.combinations.find_proofs.Given as goal

abbrev pub invariant-finding : goal.invariant-finding
invariant-finding l = record {
  all : l.count ≡ length l.nodes;
  room : length l.proofs.items ≤ length l.nodes;
  same : l.proofs.items ≡ proofs_in l.scope (take (length l.proofs.items) l.nodes);
}

abbrev pub decreases-finding : goal.decreases-finding
decreases-finding l = l.count - length l.proofs.items
