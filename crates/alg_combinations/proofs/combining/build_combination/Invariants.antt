use Rattle.std.proofs.Common.{length, reverse}
use Rattle.alg_expr.specs.Arena.{Extends}
use Rattle.alg_syntax.specs.Nodes.{tree_at}
use Rattle.alg_elaborate.specs.Raw.{meant}
use Rattle.alg_combinations.specs.Combined.{combined}
use Rattle.alg_combinations.specs.Combining.{left_of, JobsIn, jobs_size}
use Rattle.alg_combinations.proofs.CombinedLaws.{IsSoFar}
use Rattle.alg_combinations.proofs.combining.build_combination.Given as goal

abbrev pub invariant-combining : goal.invariant-combining
invariant-combining l = record {
  within : JobsIn (length l.nodes) (reverse l.jobs.items);
  kept : Extends l.fn.arena l.arena;
  same : IsSoFar l.arena l.steps.items (left_of l.scope l.sort l.nodes (reverse l.jobs.items)) (combined l.scope l.sort (meant (tree_at l.nodes l.fn.id)));
}

abbrev pub decreases-combining : goal.decreases-combining
decreases-combining l = jobs_size l.nodes (reverse l.jobs.items)
