use Rattle.std.proofs.Common.{◌≡◌, ◌-◌, suc, arith, get_or, true, false}
use Rattle.alg_expr.specs.Distinct.{AreDistinct}
use Rattle.alg_marks.proofs.Marking.{step_marked, kept, flag_at}
use Rattle.alg_marks.proofs.marks.marked.Goals as goal

pub loop-i-preserved-then-index : goal.loop-i-preserved-then-index
loop-i-preserved-then-index c =
    let v = c.loop-i.invariant in
    let m = c.mark_parts.ensures in
    let n : c.loop-i.i ≡ suc (c.loop-i.i - 1) = omega (arith, c.loop-i-test.true) in
    let flag : get_or c.loop-i.flags.items (c.loop-i.i - 1) false ≡ true = flag_at c.loop-i.flags.items (c.loop-i.i - 1) c.index.result.now (omega (arith, v.within, v.marked.size, c.loop-i-test.true)) c.index.ensures c.if-index.true in
    let distinct : AreDistinct c.args.cx.now.trees = rw c.arena.ensures at c.len-count.ensures.distinct in
    record {
      within = omega (arith, v.within);
      left = rw m.marks (kept m.args c.loop-i.flags.items c.args.a.index v.left);
      right = rw m.marks (kept m.args c.loop-i.flags.items c.args.b.index v.right);
      marked = step_marked c.args.cx.now (c.loop-i.i - 1) c.id.result c.loop-i.flags.items c.mark_parts.new.flags.items distinct (omega (arith, v.within, c.loop-i-test.true)) c.id.ensures flag (rw n at v.marked) m;
    }
