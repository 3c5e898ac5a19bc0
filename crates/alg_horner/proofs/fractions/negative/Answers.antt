use Rattle.std.proofs.Common.{ap, ◌∙◌}
use Rattle.alg_horner.specs.FractionMeaning.{ratio_at}
use Rattle.alg_horner.proofs.FractionValues.{negative_at}
use Rattle.alg_horner.proofs.fractions.negative.Goals as goal

pub returns : goal.returns
returns c = ap ratio_at c.neg.ensures ∙ negative_at c.args.number.now c.den-lowest.ensures.lowest
