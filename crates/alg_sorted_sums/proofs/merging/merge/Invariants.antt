use Rattle.std.proofs.Common.{◌+◌, ◌-◌, length}
use Rattle.alg_sorted_sums.specs.Merging.{IsUnderWay}
use Rattle.alg_sorted_sums.proofs.merging.merge.Given as goal

abbrev pub invariant-terms : goal.invariant-terms
invariant-terms g l = IsUnderWay g.S.Summand.writing l.fn.cx l.cx l.sort l.table l.zero l.p l.q l.m.done.items l.m.left l.m.right l.m.sum l.m.line

abbrev pub decreases-terms : goal.decreases-terms
decreases-terms g l = (length l.p + length l.q) - (l.m.left + l.m.right)
