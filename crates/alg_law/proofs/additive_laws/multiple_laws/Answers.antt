use Rattle.std.proofs.Common.{refl}
use Rattle.alg_law.specs.AdditiveLaws.{multiple_laws}
use Rattle.alg_law.proofs.additive_laws.multiple_laws.Goals as goal

pub returns : goal.returns
unfolding multiple_laws
returns c = refl
