use Rattle.alg_terms.specs.Tree.{Lit}
use Rattle.alg_fractions.proofs.SizeLemmas.{over-more}
use Rattle.alg_fraction_products.proofs.ProductLemmas.{left-within}
use Rattle.alg_fraction_products.proofs.SizeTrees.{times-one}
use Rattle.alg_fraction_products.proofs.products.reduced.Goals as goal

pub ratio_stays-requires-clause-small : goal.ratio_stays-requires-clause-small
ratio_stays-requires-clause-small c = left-within c.args.n c.args.g _ c.requires.factor_above c.requires.small

pub ratio_stays-requires-clause-over : goal.ratio_stays-requires-clause-over
ratio_stays-requires-clause-over c = left-within c.args.d c.args.g _ c.requires.factor_above c.requires.over

pub returns-then-d-ne1-clause-turns : goal.returns-then-d-ne1-clause-turns
returns-then-d-ne1-clause-turns c = rw (times-one c.args.n c.args.g c.if-g-eq1.true, times-one c.args.d c.args.g c.if-g-eq1.true, over-more c.args.sort (Lit c.args.sort c.args.n) c.args.d c.if-d-ne1.true) c.ratio_stays.ensures.turns
