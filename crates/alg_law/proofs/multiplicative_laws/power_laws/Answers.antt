use Rattle.std.proofs.Common.{refl}
use Rattle.alg_law.specs.MultiplicativeLaws.{power_laws}
use Rattle.alg_law.proofs.multiplicative_laws.power_laws.Goals as goal

pub returns : goal.returns
unfolding power_laws
returns c = refl
