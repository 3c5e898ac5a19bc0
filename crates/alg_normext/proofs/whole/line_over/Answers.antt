use Rattle.std.proofs.Common.{arith}
use Rattle.std.proofs.lemmas.Bool.Decides.{nat_tests}
use borrow.Author.Tests.{ltb-true}
use Rattle.alg_normext.proofs.Worths.{part_count}
use Rattle.alg_normext.proofs.whole.line_over.Goals.{in_default-via-then-args-lt1, in_default-via-else-args-lt1+else-args-lt2+else-args-lt3}
use Rattle.alg_normext.proofs.whole.line_over.Goals as goal

pub unreachable-requires : goal.unreachable-requires
unreachable-requires c =
    let k = part_count c.args.cx.now c.args.head c.args.args.now c.args.value c.requires in
    elim c.in_default.branch [
      | in_default-via-then-args-lt1 w ↦ grind (arith, nat_tests, k.0, ltb-true)
      | in_default-via-else-args-lt1+else-args-lt2+else-args-lt3 w ↦ grind (arith, nat_tests, k.1, ltb-true)
    ]
