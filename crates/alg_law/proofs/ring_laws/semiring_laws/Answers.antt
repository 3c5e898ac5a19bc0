use Rattle.std.proofs.Common.{refl}
use Rattle.alg_law.specs.RingLaws.{semiring_laws}
use Rattle.alg_law.proofs.ring_laws.semiring_laws.Goals as goal

pub returns : goal.returns
unfolding semiring_laws
returns c = refl
