use Rattle.std.proofs.Common.{refl}
use Rattle.alg_law.specs.OrderLaws.{order_laws}
use Rattle.alg_law.proofs.order_laws.order_laws.Goals as goal

pub returns : goal.returns
unfolding order_laws
returns c = refl
