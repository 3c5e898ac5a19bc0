use Rattle.alg_build.proofs.Rewritings.{grows-turns, follows}
use Rattle.alg_fraction_products.proofs.ProductLemmas.{left-within}
use Rattle.alg_fraction_products.proofs.signed_products.product_crossed.Goals as goal

pub joined-requires-clause-first_small : goal.joined-requires-clause-first_small
joined-requires-clause-first_small c = left-within c.args.n c.args.g _ c.requires.left_above c.requires.first_small

pub joined-requires-clause-first_over : goal.joined-requires-clause-first_over
joined-requires-clause-first_over c = left-within c.args.e c.args.g _ c.requires.left_above c.requires.second_over

pub joined-requires-clause-second_small : goal.joined-requires-clause-second_small
joined-requires-clause-second_small c = left-within c.args.m c.args.k _ c.requires.right_above c.requires.second_small

pub joined-requires-clause-second_over : goal.joined-requires-clause-second_over
joined-requires-clause-second_over c = left-within c.args.d c.args.k _ c.requires.right_above c.requires.first_over

pub then-requires : goal.then-requires
then-requires c = follows _ _ _ _ _ _ _ (grows-turns _ _ c.joined.ensures.grows _ _ _ _ c.in_ok-apart.ensures.turns) c.in_ok-total.ensures.turns

pub returns-clause-turns : goal.returns-clause-turns
returns-clause-turns c = c.in_ok-r.ensures.turns _ _ _ _ (grows-turns _ _ c.joined.ensures.grows _ _ _ _ c.in_ok-apart.ensures.turns) c.in_ok-total.ensures.turns
