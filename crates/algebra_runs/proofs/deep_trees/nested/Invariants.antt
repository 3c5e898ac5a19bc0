use Rattle.alg_expr.specs.Arena.{Extends}
use Rattle.alg_expr.specs.Ids.{IsIn}
use Rattle.algebra_runs.proofs.deep_trees.nested.Given as goal

abbrev pub invariant-loop : goal.invariant-loop
invariant-loop l = Extends l.fn.arena l.arena × IsIn l.arena l.top
