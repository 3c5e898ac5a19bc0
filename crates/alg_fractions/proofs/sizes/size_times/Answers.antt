use Rattle.alg_fractions.proofs.SizeLemmas.{one-times, over-more, over-one}
use Rattle.alg_fractions.proofs.sizes.size_times.Goals as goal

pub product_of_literals-requires-clause-small : goal.product_of_literals-requires-clause-small
product_of_literals-requires-clause-small c = rw (one-times c.args.d c.args.e c.args.l c.if-d-eq1.true c.requires.multiplies) c.requires.product_small

pub returns-then-d-eq1-clause-turns : goal.returns-then-d-eq1-clause-turns
returns-then-d-eq1-clause-turns c =
    rw (over-one _ _ c.args.d c.if-d-eq1.true, ← one-times c.args.d c.args.e c.args.l c.if-d-eq1.true c.requires.multiplies) c.product_of_literals.ensures.turns

pub returns-else-d-eq1-clause-turns : goal.returns-else-d-eq1-clause-turns
returns-else-d-eq1-clause-turns c = rw (over-more _ _ c.args.d c.if-d-eq1.false) c.ratio_times.ensures.turns
