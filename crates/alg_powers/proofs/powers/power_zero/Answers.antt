use Rattle.std.proofs.Common.{pos, sym}
use Rattle.alg_powers.proofs.PowerLemmas.{made-power, power-zero, whole-literal}
use Rattle.alg_powers.proofs.powers.power_zero.Goals as goal

pub returns-clause-power : goal.returns-clause-power
returns-clause-power c = made-power _ _ c.args.x.now 0 (pos 1) _ (sym (power-zero c.args.x.now)) (rw (whole-literal c.args.sort 1, ← c.in_ok-base.ensures.stands.tree) c.in_ok-by.ensures.turns)
