use Rattle.alg_build.proofs.Concluding.{keeps_then}
use Rattle.alg_build.proofs.Copying.{copied_in, copied_next}
use Rattle.alg_build.proofs.builder.Builder.copy_parts.Goals as goal

pub loop-step-preserved : goal.loop-step-preserved
loop-step-preserved c =
    let v = c.loop-step.invariant in
    rw c.in_ok-push.ensures.items
    (record {
      keeps = keeps_then _ _ _ v.keeps c.in_ok-copy.ensures.keeps;
      here = copied_in c.loop-step.self.trees c.copy_part.new.self.trees c.in_ok-copy.ensures.keeps.trees c.loop-step.copies.items c.in_ok-copy.copy v.here c.in_ok-copy.ensures.here;
      parts = copied_next c.loop-step.self.trees c.copy_part.new.self.trees c.in_ok-copy.ensures.keeps.trees c.args.from.now c.args.steps.now c.loop-step.copies.items c.loop-step.step-index c.in_ok-copy.copy _ c.loop-step-test.true v.here v.parts c.in_ok-copy.ensures.part;
    })
