use Rattle.std.proofs.Common.{◌≡◌, ◌≤◌, length, get_or, true, false}
use Rattle.alg_marks.specs.Marks.{AreMarked}
use Rattle.alg_marks.proofs.marks.marked.Given as goal

abbrev pub invariant-loop-i : goal.invariant-loop-i
invariant-loop-i l = record {
  within : l.i ≤ length l.cx.trees;
  left : get_or l.flags.items l.fn.a.index false ≡ true;
  right : get_or l.flags.items l.fn.b.index false ≡ true;
  marked : AreMarked l.cx l.i l.flags.items;
}

abbrev pub decreases-loop-i : goal.decreases-loop-i
decreases-loop-i l = l.i
