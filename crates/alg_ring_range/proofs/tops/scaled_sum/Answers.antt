use Rattle.std.specs.Int.{w128}
use Rattle.std.proofs.lemmas.Int.{to_z-of_z}
use Rattle.alg_ring_range.proofs.TopSteps.{scaled_sum_is}
use Rattle.alg_ring_range.proofs.tops.scaled_sum.Goals as goal

pub returns : goal.returns
returns c =
    rw (to_z-of_z w128 c.plus.result (record { sfits = c.plus.type_inv }))
    (scaled_sum_is c.args.m c.args.n c.scaled-left.result c.scaled-right.result c.plus.result c.args.s c.args.t
    (rw (to_z-of_z w128 c.args.m c.ranges.m) at c.scaled-left.ensures)
    (rw (to_z-of_z w128 c.args.n c.ranges.n) at c.scaled-right.ensures)
    (rw (to_z-of_z w128 c.scaled-left.result (record { sfits = c.scaled-left.type_inv }), to_z-of_z w128 c.scaled-right.result (record { sfits = c.scaled-right.type_inv })) at c.plus.ensures))
