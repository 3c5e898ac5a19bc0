use Rattle.std.proofs.Common.{arith}
use Rattle.alg_expr.proofs.Adding.{sizes_of-next}
use Rattle.alg_expr.proofs.arena.Arena.sizes.Goals as goal

pub loop-id-preserved : goal.loop-id-preserved
loop-id-preserved c = omega (arith, sizes_of-next c.args.self.now c.args.ids.now c.loop-id.id-index (record { index = 0 }) c.loop-id-test.true, c.loop-id.invariant, c.size.ensures, c.saturating_add-total.ensures)
