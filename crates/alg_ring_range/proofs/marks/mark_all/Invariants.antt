use Rattle.std.proofs.Common.{◌≡◌, length, drop}
use Rattle.alg_ring_range.specs.Marks.{marked_all}
use Rattle.alg_ring_range.proofs.marks.mark_all.Given as goal

abbrev pub invariant-loop-a : goal.invariant-loop-a
invariant-loop-a l = record {
  size : length l.flags.items ≡ length l.fn.flags.items;
  marks : marked_all l.fn.flags.items l.args ≡ marked_all l.flags.items (drop l.a-index l.args);
}
