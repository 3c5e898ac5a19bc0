use Rattle.alg_build.proofs.Rewritings.{grows-stands, begins}
use Rattle.alg_fraction_products.proofs.products.moved_back.Goals as goal

pub back-requires : goal.back-requires
back-requires c = begins _ _ _ _ _ _ (grows-stands _ _ c.moved_over.ensures.grows _ _ _ c.in_ok-e.ensures.stands) c.in_ok-moved.ensures.turns

pub returns-clause-turns : goal.returns-clause-turns
returns-clause-turns c = c.in_ok-r.ensures.turns _ _ _ (grows-stands _ _ c.moved_over.ensures.grows _ _ _ c.in_ok-e.ensures.stands) c.in_ok-moved.ensures.turns
