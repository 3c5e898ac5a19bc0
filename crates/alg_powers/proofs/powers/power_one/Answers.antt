use Rattle.std.proofs.Common.{sym}
use Rattle.std.specs.Int.{w128}
use Rattle.std.proofs.lemmas.Int.{to_z-of_z, fits_signed_from_abs}
use Rattle.alg_powers.proofs.PowerLemmas.{made-power, power-one}
use Rattle.alg_powers.proofs.powers.power_one.Goals as goal

pub returns-clause-power : goal.returns-clause-power
returns-clause-power c =
    rw (to_z-of_z w128 c.args.x.now (fits_signed_from_abs w128 c.args.x.now c.requires.first_small))
    (made-power _ _ c.args.x.now 1 c.args.x.now _ (sym (power-one c.args.x.now)) (rw (← c.in_ok-base.ensures.stands.tree) c.in_ok-by.ensures.turns))
