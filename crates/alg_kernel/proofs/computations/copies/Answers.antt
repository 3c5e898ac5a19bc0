use Rattle.alg_kernel.proofs.NumeralLemmas.{copies-more, ids-push}
use Rattle.alg_kernel.proofs.computations.copies.Goals as goal

pub loop-number-preserved : goal.loop-number-preserved
loop-number-preserved c =
    record {
      here = ids-push c.args.arena.now c.loop-number.args.items c.push.new.self.items c.args.e c.requires c.loop-number.invariant.here c.in_ok-push.ensures.items;
      sorts = copies-more c.args.arena.now c.args.numbers.now c.loop-number._number-index c.loop-number.args.items c.push.new.self.items c.args.e c.loop-number-test.true c.in_ok-push.ensures.items c.loop-number.invariant.sorts;
    }
