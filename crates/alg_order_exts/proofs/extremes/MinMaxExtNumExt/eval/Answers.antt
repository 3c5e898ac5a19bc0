use Rattle.std.proofs.Common.{arith}
use Rattle.std.proofs.lemmas.Bool.Decides.{nat_tests}
use borrow.Author.Tests.{ltb-true}
use Rattle.alg_order_exts.proofs.Calls.{extreme-count}
use Rattle.alg_order_exts.proofs.extremes.MinMaxExtNumExt.eval.Goals.{in_default-via-then-args-lt2, in_default-via-else-args-lt2+else-args-lt3}
use Rattle.alg_order_exts.proofs.extremes.MinMaxExtNumExt.eval.Goals as goal

pub unreachable-requires : goal.unreachable-requires
unreachable-requires c =
    let q = c.requires.called in
    let k = extreme-count c.args.cx.now c.args.e q.sym q.sort c.args.args.now q.covered q.over in
    elim c.in_default.branch [
      | in_default-via-then-args-lt2 w ↦ grind (arith, nat_tests, k, ltb-true)
      | in_default-via-else-args-lt2+else-args-lt3 w ↦ grind (arith, nat_tests, k, ltb-true)
    ]
