use Rattle.std.proofs.Common.{◌≡◌, ◌++◌, length}
use Rattle.alg_expr.specs.Ids.{tree_of}
use Rattle.alg_certificate.specs.Spelling.{bytes, spell}
use Rattle.alg_certificate.specs.InRange.{TreeInRange}
use Rattle.alg_certificate.specs.Pending.{pending, AreInside, AreInRange}
use Rattle.alg_certificate.proofs.trees.put_tree.Given as goal

abbrev pub invariant-steps : goal.invariant-steps
invariant-steps l = record {
  same : l.text.items ++ pending l.arena l.nodes.items ≡ l.fn.text.items ++ bytes (spell (tree_of l.arena l.fn.id));
  inside : AreInside l.arena l.nodes.items;
  in_range : AreInRange l.arena l.nodes.items → TreeInRange (tree_of l.arena l.fn.id);
}

abbrev pub decreases-steps : goal.decreases-steps
decreases-steps l = length (pending l.arena l.nodes.items)
