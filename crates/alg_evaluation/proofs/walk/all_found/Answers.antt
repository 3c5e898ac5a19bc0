use Rattle.std.proofs.Common.{◌<◌, [], ◌∷◌, length, arith, length-append}
use Rattle.alg_build.proofs.Lines.{grows-then}
use Rattle.alg_marks.proofs.Walking.{next_all, wanted-grows}
use Rattle.alg_evaluation.specs.Found.{IsFound, absent}
use Rattle.alg_evaluation.proofs.Walking.{found-grows}
use Rattle.alg_evaluation.proofs.walk.all_found.Goals as goal

pub loop-preserved : goal.loop-preserved
loop-preserved g c =
    let v = c.loop.invariant in
    let grown = c.next.ensures.grows in
    let found = rw c.as_slice.ensures.value at c.in_ok-f.ensures.found in
    let room : length c.loop.found.items < length c.loop.cx.trees = omega (arith, v.count, c.loop-test.true, v.wanted.within) in
    record {
      grows = grows-then _ _ _ v.grows grown;
      wanted = wanted-grows c.loop.cx c.next.new.cx c.args.wanted.now grown v.wanted;
      count = rw c.in_ok-push.ensures (omega (arith, v.count, length-append c.loop.found.items (c.in_ok-f.f ∷ [])));
      found = rw c.in_ok-push.ensures (next_all (IsFound _) absent (found-grows _) c.loop.cx c.next.new.cx c.args.wanted.now c.loop.found.items c.in_ok-f.f v.found grown room found);
    }
