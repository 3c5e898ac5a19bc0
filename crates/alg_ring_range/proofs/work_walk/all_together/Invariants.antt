use Rattle.std.proofs.Common.{◌≤◌, List, length, get_or, drop, All}
use Rattle.alg_terms.specs.Tree.{Tree}
use Rattle.alg_expr.specs.Ids.{tree_of, trees_at}
use Rattle.alg_expansions.specs.Setting.{Setting}
use Rattle.alg_ring_range.specs.Work.{Counts, IsWork, no_work, work, works_of}
use Rattle.alg_ring_range.proofs.work_walk.all_together.Given as goal

abbrev pub invariant-trees : goal.invariant-trees
invariant-trees l = record {
  within : l.i ≤ length l.roots;
  total : (o : Counts) (k : Setting) (trees : List Tree) → All (λ e. IsWork (get_or l.works e.index no_work) (work o k (tree_of trees e))) l.roots → IsWork l.total (works_of o k (trees_at trees (drop l.i l.roots)));
}

abbrev pub decreases-trees : goal.decreases-trees
decreases-trees l = l.i
