use Rattle.std.proofs.Common.{◌^◌}
use Rattle.alg_powers.proofs.PowerLemmas.{whole-literal}
use Rattle.alg_fraction_powers.proofs.PowerLemmas.{word}
use Rattle.alg_fraction_powers.proofs.powers.literal_power.Goals as goal

pub returns-clause-turns : goal.returns-clause-turns
returns-clause-turns c =
    let e = rw (word c.args.d c.requires.small) at c.power_of_integer.ensures.turns in
    rw (c.requires.raises, ← whole-literal c.args.sort c.args.d, ← whole-literal c.args.sort (c.args.d ^ c.args.n)) e
