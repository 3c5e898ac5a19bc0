use Rattle.std.proofs.Common.{ap}
use Rattle.alg_horner.specs.FractionMeaning.{ratio_at}
use Rattle.alg_horner.proofs.FractionValues.{fraction_is}
use Rattle.alg_horner.proofs.fractions.equal.Goals as goal

pub returns : goal.returns
returns c = (
  λ t. ap ratio_at (c.same_numbers.ensures.0 t),
  λ e. c.same_numbers.ensures.1 (fraction_is c.args.first.now c.args.second.now c.den-lowest.ensures.lowest c.den-lowest-2.ensures.lowest e),
)
