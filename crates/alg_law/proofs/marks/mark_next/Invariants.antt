use Rattle.std.proofs.Common.{◌≡◌, drop}
use Rattle.alg_terms.specs.Tree.{of_list}
use Rattle.alg_expr.specs.Ids.{tree_of, trees_at}
use Rattle.alg_law.specs.WellSorted.{worse, marks_of, mark_of}
use Rattle.alg_law.proofs.marks.mark_next.Given as goal

abbrev pub invariant-loop-part : goal.invariant-loop-part
invariant-loop-part l = worse l.m (marks_of l.base (of_list (trees_at l.arena (drop l.part-index l.args)))) ≡ mark_of l.base (tree_of l.arena l.fn.id)
