use Rattle.alg_build.proofs.Lines.{grows-then}
use Rattle.alg_build.proofs.Rewritings.{grows-stands, turns-in, is-term, target}
use Rattle.alg_fractions.proofs.SizeLemmas.{grows-quotients}
use Rattle.alg_fraction_products.proofs.ProductLemmas.{semigroup}
use Rattle.alg_fraction_products.proofs.products.whole_times_ratio.Goals as goal

pub keep-left-requires : goal.keep-left-requires
keep-left-requires c = is-term _ _ _ _ (grows-stands _ _ c.ratio.ensures.grows _ _ _ c.in_ok-first.ensures.stands)

pub keep-right-requires : goal.keep-right-requires
keep-right-requires c = is-term _ _ _ _ c.in_ok-second.ensures.stands

pub times-requires-clause-class : goal.times-requires-clause-class
times-requires-clause-class c = semigroup _ _ (grows-quotients _ _ (grows-then _ _ _ c.literal.ensures.grows c.ratio.ensures.grows) _ c.requires.quotients)

pub times-requires-clause-left : goal.times-requires-clause-left
times-requires-clause-left c = turns-in _ _ _ _ _ (c.keep-left.ensures _ _ (grows-stands _ _ c.ratio.ensures.grows _ _ _ c.in_ok-first.ensures.stands))

pub times-requires-clause-right : goal.times-requires-clause-right
times-requires-clause-right c = turns-in _ _ _ _ _ (c.keep-right.ensures _ _ c.in_ok-second.ensures.stands)

pub returns-clause-stands : goal.returns-clause-stands
returns-clause-stands c = target _ _ _ _ _ (c.in_ok-r.ensures.turns _ _ _ _ (c.keep-left.ensures _ _ (grows-stands _ _ c.ratio.ensures.grows _ _ _ c.in_ok-first.ensures.stands)) (c.keep-right.ensures _ _ c.in_ok-second.ensures.stands))
