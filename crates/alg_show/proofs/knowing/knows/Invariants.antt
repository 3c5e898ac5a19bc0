use Rattle.std.proofs.Common.{◌≡◌}
use Rattle.alg_expr.specs.Ids.{tree_of}
use Rattle.alg_show.specs.Knowing.{knows}
use Rattle.alg_show.specs.Waiting.{any_knows, total, AllIn}
use Rattle.alg_show.proofs.knowing.knows.Given as goal

abbrev pub invariant-loop-next : goal.invariant-loop-next
invariant-loop-next l = record {
  same : knows (tree_of l.arena l.fn.id) ≡ any_knows l.arena l.waiting.items;
  inside : AllIn l.arena l.waiting.items;
}

abbrev pub decreases-loop-next : goal.decreases-loop-next
decreases-loop-next l = total l.arena l.waiting.items
