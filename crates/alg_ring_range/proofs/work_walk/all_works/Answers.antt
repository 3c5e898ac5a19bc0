use Rattle.std.proofs.Common.{◌<◌, [], ◌∷◌, length, arith, length-append}
use Rattle.alg_expansions.specs.Setting.{setting_of}
use Rattle.alg_ring_range.proofs.WorkLemmas.{next_work}
use Rattle.alg_ring_range.proofs.work_walk.all_works.Goals as goal

pub loop-preserved : goal.loop-preserved
loop-preserved c =
    let v = c.loop.invariant in
    let room : length c.loop.works.items < length c.args.arena.now = omega (arith, v.count, c.loop-test.true, c.requires.wanted.within) in
    record {
      count = rw c.in_ok-push.ensures (omega (arith, v.count, length-append c.loop.works.items (c.next-w.result ∷ [])));
      works = λ o told.
          rw c.in_ok-push.ensures
          (next_work o (setting_of c.args.base.now) c.args.arena.now c.args.wanted.now c.loop.works.items c.next-w.result (v.works o told) room
          (λ want. (rw c.as_slice.ensures.value at (c.next-w.ensures o told)) (v.works o told) want));
    }
