use Rattle.alg_fraction_products.proofs.ProductLemmas.{left-within}
use Rattle.alg_fraction_products.proofs.SizeTrees.{whole-by, whole-by_crossed, by-whole, by-whole_crossed, both-uncrossed}
use Rattle.alg_fraction_products.proofs.products.crossed.Goals as goal

pub crossed_whole-requires-clause-second_small : goal.crossed_whole-requires-clause-second_small
crossed_whole-requires-clause-second_small c = left-within c.args.m c.args.k _ c.requires.right_above c.requires.second_small

pub crossed_by_whole-requires-clause-first_small : goal.crossed_by_whole-requires-clause-first_small
crossed_by_whole-requires-clause-first_small c = left-within c.args.n c.args.g _ c.requires.left_above c.requires.first_small

pub returns-then-d-k-eq1-clause-turns : goal.returns-then-d-k-eq1-clause-turns
returns-then-d-k-eq1-clause-turns c = rw (whole-by c.args.sort c.args.n c.args.d c.args.m c.args.e c.args.g c.args.k c.requires.first_above c.requires.second_above c.requires.left_above c.requires.right_above c.requires.common c.if-d-k-eq1.true, whole-by_crossed c.args.sort c.args.n c.args.d c.args.m c.args.e c.args.g c.args.k c.requires.first_above c.requires.second_above c.requires.left_above c.requires.right_above c.requires.common c.if-d-k-eq1.true) c.crossed_whole.ensures.turns

pub returns-then-e-g-eq1-clause-turns : goal.returns-then-e-g-eq1-clause-turns
returns-then-e-g-eq1-clause-turns c = rw (by-whole c.args.sort c.args.n c.args.d c.args.m c.args.e c.args.g c.args.k c.requires.first_above c.requires.second_above c.requires.left_above c.requires.right_above c.requires.common c.if-e-g-eq1.true, by-whole_crossed c.args.sort c.args.n c.args.d c.args.m c.args.e c.args.g c.args.k c.requires.first_above c.requires.second_above c.requires.left_above c.requires.right_above c.requires.common c.if-e-g-eq1.true) c.crossed_by_whole.ensures.turns

pub returns-else-e-g-eq1-clause-turns : goal.returns-else-e-g-eq1-clause-turns
returns-else-e-g-eq1-clause-turns c = rw (both-uncrossed c.args.sort c.args.n c.args.d c.args.m c.args.e c.args.g c.args.k c.requires.first_above c.requires.second_above c.requires.left_above c.requires.right_above c.requires.common c.if-d-k-eq1.false c.if-e-g-eq1.false) c.crossed_ratios.ensures.turns
