use Rattle.alg_build.proofs.Rewritings.{grows-turns, follows}
use Rattle.alg_build.proofs.Lines.{grows-then}
use Rattle.alg_fractions.proofs.SizeLemmas.{grows-quotients}
use Rattle.alg_fraction_products.proofs.products.ratio_by_ratio.Goals as goal

pub products_together-requires-clause-quotients : goal.products_together-requires-clause-quotients
products_together-requires-clause-quotients c = (grows-quotients _ _ c.products_apart.ensures.grows _ c.requires.quotients)

pub returns-clause-grows : goal.returns-clause-grows
returns-clause-grows c = (grows-then _ _ _ c.products_apart.ensures.grows (grows-then _ _ _ c.products_together.ensures.grows c.then.ensures.grows))

pub then-requires : goal.then-requires
then-requires c = follows _ _ _ _ _ _ _ (grows-turns _ _ c.products_together.ensures.grows _ _ _ _ c.in_ok-apart.ensures.turns) c.in_ok-totals.ensures.turns

pub returns-clause-turns : goal.returns-clause-turns
returns-clause-turns c = c.in_ok-r.ensures.turns _ _ _ _ (grows-turns _ _ c.products_together.ensures.grows _ _ _ _ c.in_ok-apart.ensures.turns) c.in_ok-totals.ensures.turns
