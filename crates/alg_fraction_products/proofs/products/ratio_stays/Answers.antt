use Rattle.alg_build.proofs.Rewritings.{is-term}
use Rattle.alg_fraction_products.proofs.products.ratio_stays.Goals as goal

pub keep-requires : goal.keep-requires
keep-requires c = is-term _ _ _ _ c.in_ok-e.ensures.stands

pub returns-clause-turns : goal.returns-clause-turns
returns-clause-turns c = c.keep.ensures _ _ c.in_ok-e.ensures.stands
