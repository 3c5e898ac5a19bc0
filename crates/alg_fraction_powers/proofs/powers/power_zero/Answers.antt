use Rattle.alg_fractions.proofs.SizeLemmas.{grows-quotients}
use Rattle.alg_powers.proofs.PowerLemmas.{literals-monoid}
use Rattle.alg_fraction_powers.proofs.PowerLemmas.{zero-power}
use Rattle.alg_fraction_powers.proofs.powers.power_zero.Goals as goal

pub pow_zero-requires-clause-monoid : goal.pow_zero-requires-clause-monoid
pow_zero-requires-clause-monoid c = literals-monoid _ _ (grows-quotients _ _ c.signed_size.ensures.grows _ c.requires.quotients).signs.literals

pub returns-clause-turns : goal.returns-clause-turns
returns-clause-turns c = rw (zero-power c.args.sort c.args.x c.args._z c.requires.lowest c.requires.raises, ← c.in_ok-e.ensures.stands.tree) c.pow_zero.ensures.turns
