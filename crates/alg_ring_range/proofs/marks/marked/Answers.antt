use Rattle.std.proofs.Common.{◌≡◌, ◌∙◌, ◌-◌, suc, ap, arith, get_or, length, true, false}
use Rattle.std.proofs.lemmas.List.{length-replicate}
use Rattle.alg_expr.specs.Distinct.{AreDistinct}
use Rattle.alg_ring_range.proofs.Marking.{step_marked, start_marked, marks, size, kept, flag_at}
use Rattle.alg_ring_range.proofs.marks.marked.Goals as goal

pub loop-i-init : goal.loop-i-init
loop-i-init c =
    let all = c.in_ok-flags.ensures.items_if_clones_equal (λ y e. e) in
    let many : length c.in_ok-flags.flags.items ≡ length c.args.arena.now = ap length all ∙ length-replicate c.len-count.result false ∙ c.len-count.ensures.len in
    record {
      within = omega (arith, c.len-count.ensures.len);
      roots = rw c.mark_all.ensures (marks c.args.roots.now c.in_ok-flags.flags.items (λ k d l. omega (arith, many, c.requires.here k d l)));
      marked = start_marked c.args.arena.now c.len-count.result c.mark_all.new.flags.items c.len-count.ensures.len (ap length c.mark_all.ensures ∙ size c.args.roots.now c.in_ok-flags.flags.items ∙ many);
    }

pub loop-i-preserved-then-index : goal.loop-i-preserved-then-index
loop-i-preserved-then-index c =
    let v = c.loop-i.invariant in
    let m = c.mark_parts.ensures in
    let n : c.loop-i.i ≡ suc (c.loop-i.i - 1) = omega (arith, c.loop-i-test.true) in
    let flag : get_or c.loop-i.flags.items (c.loop-i.i - 1) false ≡ true = flag_at c.loop-i.flags.items (c.loop-i.i - 1) c.index.result.now (omega (arith, v.within, v.marked.size, c.loop-i-test.true)) c.index.ensures c.if-index.true in
    let distinct : AreDistinct c.args.arena.now = c.len-count.ensures.distinct in
    record {
      within = omega (arith, v.within);
      roots = λ k d j. rw m.marks (kept m.args c.loop-i.flags.items (get_or c.args.roots.now k d).index (v.roots k d j));
      marked = step_marked c.args.arena.now (c.loop-i.i - 1) c.id.result c.loop-i.flags.items c.mark_parts.new.flags.items distinct (omega (arith, v.within, c.loop-i-test.true)) c.id.ensures flag (rw n at v.marked) m;
    }
