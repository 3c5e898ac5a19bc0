use Rattle.std.proofs.Common.{arith, refl}
use Rattle.std.proofs.lemmas.Bool.Decides.{nat_tests}
use borrow.Author.Tests.{ltb-true}
use Rattle.alg_terms.specs.Tree.{sort_of_tree}
use Rattle.alg_expr.specs.Ids.{tree_of}
use Rattle.alg_order_exts.proofs.Calls.{absolute-over, absolute-count}
use Rattle.alg_order_exts.proofs.absolutes.AbsExtNumExt.eval.Goals.{in_default-via-then-args-lt1, in_default-via-else-args-lt1+else-args-lt2}
use Rattle.alg_order_exts.proofs.absolutes.AbsExtNumExt.eval.Goals as goal

pub unreachable-requires : goal.unreachable-requires
unreachable-requires c =
    let s = sort_of_tree (tree_of c.args.cx.now.trees c.args.e) in
    let o = absolute-over c.args.cx.now c.args.e c.args.args.now s refl c.requires.called in
    let k = absolute-count c.args.cx.now c.args.e s c.args.args.now o in
    elim c.in_default.branch [
      | in_default-via-then-args-lt1 w ↦ grind (arith, nat_tests, k, ltb-true)
      | in_default-via-else-args-lt1+else-args-lt2 w ↦ grind (arith, nat_tests, k, ltb-true)
    ]
