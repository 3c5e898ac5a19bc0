use Rattle.std.proofs.Common.{length, ◌≡◌, ◌-◌, drop}
use Rattle.alg_expr.specs.Applying.{sorts_at}
use Rattle.alg_law.specs.WellSorted.{sorts_agree}
use Rattle.alg_law.proofs.marks.agree.Given as goal

abbrev pub invariant-loop-i : goal.invariant-loop-i
invariant-loop-i l = sorts_agree (drop l.i l.sorts) (sorts_at l.arena (drop l.i l.args)) ≡ sorts_agree l.sorts (sorts_at l.arena l.args)

abbrev pub decreases-loop-i : goal.decreases-loop-i
decreases-loop-i l = length l.args - l.i
