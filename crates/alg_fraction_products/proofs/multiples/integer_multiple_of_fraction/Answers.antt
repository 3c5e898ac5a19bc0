use Rattle.alg_build.proofs.Rewritings.{grows-turns, follows}
use Rattle.alg_fractions.proofs.FractionLemmas.{grows-fraction}
use Rattle.alg_fraction_products.proofs.multiples.integer_multiple_of_fraction.Goals as goal

pub multiple_of_fraction-requires-clause-first : goal.multiple_of_fraction-requires-clause-first
multiple_of_fraction-requires-clause-first c = grows-fraction _ _ c.multiple_over_naturals.ensures.grows _ _ c.requires.first

pub then-requires : goal.then-requires
then-requires c = follows _ _ _ _ _ _ _ (grows-turns _ _ c.multiple_of_fraction.ensures.grows _ _ _ _ c.in_ok-bridged.ensures.turns) c.in_ok-total.ensures.turns

pub returns-clause-turns : goal.returns-clause-turns
returns-clause-turns c = c.in_ok-r.ensures.turns _ _ _ _ (grows-turns _ _ c.multiple_of_fraction.ensures.grows _ _ _ _ c.in_ok-bridged.ensures.turns) c.in_ok-total.ensures.turns
