use Rattle.std.proofs.Common.{◌≡◌, ◌++◌, length, All}
use Rattle.alg_expr.specs.Ids.{IsIn, trees_at}
use Rattle.alg_certificate.specs.InRange.{TreeInRange}
use Rattle.alg_certificate.proofs.Pieces.{trees_text}
use Rattle.alg_certificate.proofs.trees.put_trees.Given as goal

abbrev pub invariant-ids : goal.invariant-ids
invariant-ids l = record {
  same : l.text.items ++ trees_text (trees_at l.arena l.left) ≡ l.fn.text.items ++ trees_text (trees_at l.arena l.ids);
  inside : All (IsIn l.arena) l.left;
  in_range : All TreeInRange (trees_at l.arena l.left) → All TreeInRange (trees_at l.arena l.ids);
}

abbrev pub decreases-ids : goal.decreases-ids
decreases-ids l = length l.left
