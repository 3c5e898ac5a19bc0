use Rattle.alg_fractions.proofs.SizeLemmas.{over-more, over-one}
use Rattle.alg_fractions.proofs.sizes.size.Goals as goal

pub returns-then-d-eq1-clause-stands : goal.returns-then-d-eq1-clause-stands
returns-then-d-eq1-clause-stands c = rw (over-one _ _ c.args.d c.if-d-eq1.true) c.literal.ensures.stands

pub returns-else-d-eq1-clause-stands : goal.returns-else-d-eq1-clause-stands
returns-else-d-eq1-clause-stands c = rw (over-more _ _ c.args.d c.if-d-eq1.false) c.ratio.ensures.stands
