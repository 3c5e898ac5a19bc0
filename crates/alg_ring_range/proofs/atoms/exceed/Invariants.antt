use Rattle.std.proofs.Common.{◌≤◌, length}
use Rattle.alg_expr.specs.Ids.{trees_at}
use Rattle.alg_expansions.specs.Setting.{setting_of}
use Rattle.alg_ring_range.specs.Atoms.{HasCome}
use Rattle.alg_ring_range.proofs.atoms.exceed.Given as goal

abbrev pub invariant-loop-i : goal.invariant-loop-i
invariant-loop-i l = record {
  come : HasCome (setting_of l.base) l.arena (trees_at l.arena l.roots) l.wanted l.flags.items l.seen.items l.i;
  few : length l.seen.items ≤ 256;
}

abbrev pub decreases-loop-i : goal.decreases-loop-i
decreases-loop-i l = l.i
