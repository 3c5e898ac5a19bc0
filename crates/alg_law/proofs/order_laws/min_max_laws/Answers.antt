use Rattle.std.proofs.Common.{refl}
use Rattle.alg_law.specs.OrderLaws.{min_max_laws}
use Rattle.alg_law.proofs.order_laws.min_max_laws.Goals as goal

pub returns : goal.returns
unfolding min_max_laws
returns c = refl
