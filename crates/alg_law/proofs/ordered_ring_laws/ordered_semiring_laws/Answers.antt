use Rattle.std.proofs.Common.{refl}
use Rattle.alg_law.specs.OrderedRingLaws.{ordered_semiring_laws}
use Rattle.alg_law.proofs.ordered_ring_laws.ordered_semiring_laws.Goals as goal

pub returns : goal.returns
unfolding ordered_semiring_laws
returns c = refl
