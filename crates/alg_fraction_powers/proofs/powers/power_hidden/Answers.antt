use Rattle.alg_build.proofs.Rewritings.{grows-turns, follows}
use Rattle.alg_fraction_powers.proofs.powers.power_hidden.Goals as goal

pub then-requires : goal.then-requires
then-requires c = follows _ _ _ _ _ _ _ (grows-turns _ _ c.hidden.ensures.grows _ _ _ _ c.in_ok-power.ensures.turns) c.in_ok-sign.ensures.turns

pub returns-clause-turns : goal.returns-clause-turns
returns-clause-turns c = c.in_ok-r.ensures.turns _ _ _ _ (grows-turns _ _ c.hidden.ensures.grows _ _ _ _ c.in_ok-power.ensures.turns) c.in_ok-sign.ensures.turns
