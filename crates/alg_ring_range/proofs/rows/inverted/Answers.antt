use Rattle.alg_ring_range.proofs.RowLemmas.{inverse_is}
use Rattle.alg_ring_range.proofs.rows.inverted.Goals as goal

pub returns-in-Some-reduced : goal.returns-in-Some-reduced
returns-in-Some-reduced c = λ x p h e. inverse_is c.args.b.now x h c.in-Some.z p c.in-Some-reduced.f c.turned.result c.in-Some.is e c.in-Some-reduced.ensures.1 c.turned.ensures.sizes c.turned.ensures.top c.turned.ensures.small
