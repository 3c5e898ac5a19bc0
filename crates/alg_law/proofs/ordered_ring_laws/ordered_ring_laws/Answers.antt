use Rattle.std.proofs.Common.{refl}
use Rattle.alg_law.specs.OrderedRingLaws.{ordered_ring_laws}
use Rattle.alg_law.proofs.ordered_ring_laws.ordered_ring_laws.Goals as goal

pub returns : goal.returns
unfolding ordered_ring_laws
returns c = refl
