use Rattle.alg_build.proofs.Rewritings.{follows, grows-turns}
use Rattle.alg_fractions.proofs.sizes.ratio_times.Goals as goal

pub then-requires : goal.then-requires
then-requires c = follows _ _ _ _ _ _ _ (grows-turns _ _ c.product_of_literals.ensures.grows _ _ _ _ c.in_ok-r.ensures.turns) c.in_ok-s.ensures.turns

pub returns-clause-turns : goal.returns-clause-turns
returns-clause-turns c = c.in_ok-q.ensures.turns _ _ _ _ (grows-turns _ _ c.product_of_literals.ensures.grows _ _ _ _ c.in_ok-r.ensures.turns) c.in_ok-s.ensures.turns
