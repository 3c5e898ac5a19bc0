use Rattle.alg_order_exts.proofs.Calls.{is-pair}
use Rattle.alg_order_exts.proofs.extremes.in_order.Goals as goal

pub with_line-requires-clause-pair : goal.with_line-requires-clause-pair
with_line-requires-clause-pair c = is-pair c.args.cx.now c.args.e c.args.head c.args.a.now c.args.b.now c.requires.extreme c.requires.over c.requires.ordered c.requires.library
