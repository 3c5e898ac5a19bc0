use Rattle.std.proofs.Common.{pos, ap, ◌∙◌}
use Rattle.alg_horner.specs.FractionMeaning.{ratio_at}
use Rattle.alg_horner.proofs.WholeNumbers.{one_is}
use Rattle.alg_horner.proofs.FractionValues.{whole_at}
use Rattle.alg_horner.proofs.fractions.FracCoeff.one.Goals as goal

pub returns : goal.returns
returns c = ap ratio_at c.whole.ensures ∙ whole_at (pos 1) ∙ one_is
