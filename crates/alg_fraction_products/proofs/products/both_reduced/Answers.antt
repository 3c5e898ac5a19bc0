use Rattle.alg_build.proofs.Lines.{grows-then}
use Rattle.alg_build.proofs.Rewritings.{grows-turns, turns-in}
use Rattle.alg_fractions.proofs.SizeLemmas.{grows-quotients}
use Rattle.alg_fraction_products.proofs.ProductLemmas.{semigroup}
use Rattle.alg_fraction_products.proofs.products.both_reduced.Goals as goal

pub times-requires-clause-class : goal.times-requires-clause-class
times-requires-clause-class c = semigroup _ _ (grows-quotients _ _ (grows-then _ _ _ c.reduced.ensures.grows c.reduced-2.ensures.grows) _ c.requires.quotients)

pub times-requires-clause-left : goal.times-requires-clause-left
times-requires-clause-left c = turns-in _ _ _ _ _ (grows-turns _ _ c.reduced-2.ensures.grows _ _ _ _ c.in_ok-left.ensures.turns)

pub times-requires-clause-right : goal.times-requires-clause-right
times-requires-clause-right c = turns-in _ _ _ _ _ c.in_ok-right.ensures.turns

pub returns-clause-turns : goal.returns-clause-turns
returns-clause-turns c = c.in_ok-r.ensures.turns _ _ _ _ (grows-turns _ _ c.reduced-2.ensures.grows _ _ _ _ c.in_ok-left.ensures.turns) c.in_ok-right.ensures.turns
