use Rattle.alg_build.proofs.Lines.{grows-then}
use Rattle.alg_build.proofs.Rewritings.{grows-turns, stands-over}
use Rattle.alg_fractions.proofs.SizeLemmas.{grows-quotients, quotient-heads}
use Rattle.alg_fraction_products.proofs.products.products_together.Goals as goal

pub product_of_literals-requires-2-clause-known : goal.product_of_literals-requires-2-clause-known
product_of_literals-requires-2-clause-known c = (grows-quotients _ _ c.product_of_literals.ensures.grows _ c.requires.quotients).signs.literals.known

pub product_of_literals-requires-2-clause-class : goal.product_of_literals-requires-2-clause-class
product_of_literals-requires-2-clause-class c = (grows-quotients _ _ c.product_of_literals.ensures.grows _ c.requires.quotients).signs.literals.semiring

pub returns-clause-grows : goal.returns-clause-grows
returns-clause-grows c = (grows-then _ _ _ c.product_of_literals.ensures.grows (grows-then _ _ _ c.product_of_literals-2.ensures.grows c.under_two.ensures.grows))

pub under_two-requires : goal.under_two-requires
under_two-requires c = stands-over _ _ _ _ _ _ _ _ _ _ _ (grows-turns _ _ c.product_of_literals-2.ensures.grows _ _ _ _ c.in_ok-top.ensures.turns) c.in_ok-bottom.ensures.turns (quotient-heads _ _ (grows-quotients _ _ (grows-then _ _ _ c.product_of_literals.ensures.grows c.product_of_literals-2.ensures.grows) _ c.requires.quotients))

pub returns-clause-turns : goal.returns-clause-turns
returns-clause-turns c = c.in_ok-r.ensures.turns _ _ _ _ _ _ (grows-turns _ _ c.product_of_literals-2.ensures.grows _ _ _ _ c.in_ok-top.ensures.turns) c.in_ok-bottom.ensures.turns (quotient-heads _ _ (grows-quotients _ _ (grows-then _ _ _ c.product_of_literals.ensures.grows c.product_of_literals-2.ensures.grows) _ c.requires.quotients))
