use Rattle.std.proofs.Common.{refl}
use Rattle.alg_law.specs.MultiplicativeLaws.{product_laws}
use Rattle.alg_law.proofs.multiplicative_laws.product_laws.Goals as goal

pub returns : goal.returns
unfolding product_laws
returns c = refl
