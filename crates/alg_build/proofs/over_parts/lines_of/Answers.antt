use Rattle.std.proofs.Common.{[]}
use Rattle.alg_build.proofs.Lines.{grows-self, grows-then}
use Rattle.alg_build.proofs.Rewritings.{grows-turns}
use Rattle.alg_build.proofs.ListLemmas.{all-prove-none, all-prove-next, all-prove-same}
use Rattle.alg_build.proofs.over_parts.lines_of.Goals as goal

pub loop-part-init : goal.loop-part-init
loop-part-init c = record { prove = λ ss xs ys h. all-prove-same _ _ [] xs ys c.new-lines.ensures.items (all-prove-none c.args.cx.now c.args.cx.now ss xs ys h); grows = grows-self _ }

pub loop-part-preserved : goal.loop-part-preserved
loop-part-preserved c =
    let v = c.loop-part.invariant in
    record {
      prove = all-prove-next _ _ _ _ _ _ _ c.loop-part.part-index _ c.loop-part-test.true c.in_ok-push.ensures.items c.line_of.ensures.grows v.prove (λ s x y h. c.in_ok-line.ensures.proves s x y (grows-turns _ _ v.grows s _ x y h));
      grows = grows-then _ _ _ v.grows c.line_of.ensures.grows;
    }
