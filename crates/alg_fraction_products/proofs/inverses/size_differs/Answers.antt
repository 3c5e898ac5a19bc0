use Rattle.alg_terms.specs.Tree.{Lit}
use Rattle.alg_fractions.proofs.SizeLemmas.{over-one, over-more, above-differs}
use Rattle.alg_fraction_products.proofs.inverses.size_differs.Goals as goal

pub relation_of_literals-requires-clause-holds : goal.relation_of_literals-requires-clause-holds
relation_of_literals-requires-clause-holds c = above-differs _ c.requires.first_above

pub relation_of_literals-requires-clause-class : goal.relation_of_literals-requires-clause-class
relation_of_literals-requires-clause-class c = c.requires.quotients.char_zero

pub returns-then-d-eq1-clause-concludes : goal.returns-then-d-eq1-clause-concludes
returns-then-d-eq1-clause-concludes c = rw (over-one c.args.sort (Lit c.args.sort c.args.n) c.args.d c.if-d-eq1.true) c.relation_of_literals.ensures.concludes

pub returns-else-d-eq1-clause-concludes : goal.returns-else-d-eq1-clause-concludes
returns-else-d-eq1-clause-concludes c = rw (over-more c.args.sort (Lit c.args.sort c.args.n) c.args.d c.if-d-eq1.false) c.ratio_differs.ensures.concludes
