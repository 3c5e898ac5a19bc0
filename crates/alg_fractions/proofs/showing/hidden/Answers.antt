use Rattle.alg_build.proofs.Rewritings.{begins, grows-stands}
use Rattle.alg_fractions.proofs.showing.hidden.Goals as goal

pub back-requires : goal.back-requires
back-requires c = begins _ _ _ _ _ _ (grows-stands _ _ c.shown.ensures.grows _ _ _ c.in_ok-e.ensures.stands) c.in_ok-r.ensures.turns

pub returns-clause-turns : goal.returns-clause-turns
returns-clause-turns c = c.in_ok-q.ensures.turns _ _ _ (grows-stands _ _ c.shown.ensures.grows _ _ _ c.in_ok-e.ensures.stands) c.in_ok-r.ensures.turns
