use Rattle.alg_terms.specs.Tree.{Lit}
use Rattle.alg_fractions.proofs.SizeLemmas.{over-one, over-more}
use Rattle.alg_fraction_products.proofs.SizeTrees.{first-whole, second-whole, both-ratios}
use Rattle.alg_fraction_products.proofs.products.joined.Goals as goal

pub returns-then-d-eq1-clause-turns : goal.returns-then-d-eq1-clause-turns
returns-then-d-eq1-clause-turns c = rw (over-one c.args.sort (Lit c.args.sort c.args.n) c.args.d c.if-d-eq1.true, first-whole c.args.sort c.args.n c.args.d c.args.m c.args.e c.if-d-eq1.true) c.whole_by_size.ensures.turns

pub returns-then-e-eq1-clause-turns : goal.returns-then-e-eq1-clause-turns
returns-then-e-eq1-clause-turns c = rw (over-more c.args.sort (Lit c.args.sort c.args.n) c.args.d c.if-d-eq1.false, over-one c.args.sort (Lit c.args.sort c.args.m) c.args.e c.if-e-eq1.true, second-whole c.args.sort c.args.n c.args.d c.args.m c.args.e c.if-d-eq1.false c.if-e-eq1.true) c.ratio_by_whole.ensures.turns

pub returns-else-e-eq1-clause-turns : goal.returns-else-e-eq1-clause-turns
returns-else-e-eq1-clause-turns c = rw (over-more c.args.sort (Lit c.args.sort c.args.n) c.args.d c.if-d-eq1.false, over-more c.args.sort (Lit c.args.sort c.args.m) c.args.e c.if-e-eq1.false, both-ratios c.args.sort c.args.n c.args.d c.args.m c.args.e c.requires.first_above c.requires.second_above c.if-d-eq1.false) c.ratio_by_ratio.ensures.turns
