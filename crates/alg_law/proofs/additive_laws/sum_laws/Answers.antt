use Rattle.std.proofs.Common.{refl}
use Rattle.alg_law.specs.AdditiveLaws.{sum_laws}
use Rattle.alg_law.proofs.additive_laws.sum_laws.Goals as goal

pub returns : goal.returns
unfolding sum_laws
returns c = refl
