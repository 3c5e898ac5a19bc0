use Rattle.std.proofs.Common.{refl}
use Rattle.alg_law.specs.RingLaws.{field_laws}
use Rattle.alg_law.proofs.ring_laws.field_laws.Goals as goal

pub returns : goal.returns
unfolding field_laws
returns c = refl
