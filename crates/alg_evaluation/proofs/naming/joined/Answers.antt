use Rattle.std.proofs.Common.{arith}
use Rattle.alg_evaluation.proofs.Asking.{joined_next}
use Rattle.alg_evaluation.proofs.naming.joined.Goals as goal

pub loop-f-preserved : goal.loop-f-preserved
loop-f-preserved c =
    let v = c.loop-f.invariant in
    record {
      index = omega (arith, v.index);
      items = joined_next c.args.parts.now c.args.lines.now c.loop-f.f-index c.loop-f.i c.f-item.result c.loop-f.args.items _ v.index (omega arith) (omega arith) c.f-item.is v.items c.in_ok-push.ensures;
    }
