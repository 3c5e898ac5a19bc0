use Rattle.std.proofs.Common.{◌≡◌, length, reverse, ◌∷◌, []}
use Rattle.alg_expr.specs.Arena.{Extends}
use Rattle.alg_expr.specs.Ids.{trees_at}
use Rattle.alg_syntax.specs.Nodes.{tree_at}
use Rattle.alg_elaborate.specs.Raw.{meant}
use Rattle.alg_elaborate.specs.TypedTrees.{typed}
use Rattle.alg_elaborate.specs.Jobs.{done, Enough, JobsIn, jobs_size}
use Rattle.alg_elaborate.proofs.Builds.{Below}
use Rattle.alg_elaborate.proofs.building.build.Given as goal

abbrev pub invariant-building : goal.invariant-building
invariant-building l = record {
  within : JobsIn l.scope l.nodes (reverse l.jobs.items);
  enough : Enough (reverse l.jobs.items) (length l.values.items);
  below : Below l.arena l.values.items;
  grows : Extends l.fn.arena l.arena;
  same : typed l.scope l.fn.sort (meant (tree_at l.nodes l.fn.id)) ∷ [] ≡ done l.scope l.nodes (reverse l.jobs.items) (trees_at l.arena l.values.items);
}

abbrev pub decreases-building : goal.decreases-building
decreases-building l = jobs_size l.nodes (reverse l.jobs.items)
