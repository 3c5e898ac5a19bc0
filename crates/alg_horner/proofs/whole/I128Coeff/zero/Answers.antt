use Rattle.alg_horner.proofs.WholeNumbers.{nil_is}
use Rattle.alg_horner.proofs.whole.I128Coeff.zero.Goals as goal

pub returns : goal.returns
returns c = nil_is
