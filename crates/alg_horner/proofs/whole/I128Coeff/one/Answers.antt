use Rattle.alg_horner.proofs.WholeNumbers.{one_is}
use Rattle.alg_horner.proofs.whole.I128Coeff.one.Goals as goal

pub returns : goal.returns
returns c = one_is
