use Rattle.std.proofs.Common.{refl}
use Rattle.alg_law.specs.RingLaws.{unequal_laws}
use Rattle.alg_law.proofs.ring_laws.unequal_laws.Goals as goal

pub returns : goal.returns
unfolding unequal_laws
returns c = refl
