use Rattle.alg_ring_range.specs.Sizes.{quotient_sizes}
use Rattle.alg_ring_range.proofs.sizes.quotient_sizes.Goals as goal

pub returns : goal.returns
returns c = c.within.ensures (quotient_sizes c.args.x) c.cap.ensures c.cap-2.ensures c.capped_sum.ensures
