use Rattle.std.proofs.Common.{◌≡◌, ◌≤◌, length, get_or, All, true, false}
use Rattle.alg_ring_range.specs.Marks.{AreMarked}
use Rattle.alg_ring_range.proofs.marks.marked.Given as goal

abbrev pub invariant-loop-i : goal.invariant-loop-i
invariant-loop-i l = record {
  within : l.i ≤ length l.arena;
  roots : All (λ e. get_or l.flags.items e.index false ≡ true) l.roots;
  marked : AreMarked l.arena l.i l.flags.items;
}

abbrev pub decreases-loop-i : goal.decreases-loop-i
decreases-loop-i l = l.i
