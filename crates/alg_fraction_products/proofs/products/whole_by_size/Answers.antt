use Rattle.std.proofs.Common.{◌*◌}
use Rattle.alg_terms.specs.Tree.{Lit}
use Rattle.alg_fractions.proofs.SizeLemmas.{over-one, over-more}
use Rattle.alg_fraction_products.proofs.products.whole_by_size.Goals as goal

pub returns-then-e-eq1-clause-turns : goal.returns-then-e-eq1-clause-turns
returns-then-e-eq1-clause-turns c = rw (over-one c.args.sort (Lit c.args.sort c.args.m) c.args.e c.if-e-eq1.true, over-one c.args.sort (Lit c.args.sort (c.args.n * c.args.m)) c.args.e c.if-e-eq1.true) c.product_of_literals.ensures.turns

pub returns-else-e-eq1-clause-turns : goal.returns-else-e-eq1-clause-turns
returns-else-e-eq1-clause-turns c = rw (over-more c.args.sort (Lit c.args.sort c.args.m) c.args.e c.if-e-eq1.false, over-more c.args.sort (Lit c.args.sort (c.args.n * c.args.m)) c.args.e c.if-e-eq1.false) c.whole_by_ratio.ensures.turns
