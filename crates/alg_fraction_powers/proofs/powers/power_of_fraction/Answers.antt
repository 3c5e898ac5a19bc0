use Rattle.std.proofs.Common.{sym, ◌∙◌}
use Rattle.alg_fractions.proofs.FractionLemmas.{signed-whole, back}
use Rattle.alg_fraction_powers.proofs.PowerLemmas.{whole-power}
use Rattle.alg_fraction_powers.proofs.powers.power_of_fraction.Goals as goal

pub returns-then-den-eq1-clause-turns : goal.returns-then-den-eq1-clause-turns
returns-then-den-eq1-clause-turns c =
    let e = rw (back _ c.num-m.ensures.small, c.num-m.ensures.number) at c.power_of_integer.ensures.turns in
    let d = sym c.den.ensures.number ∙ c.if-den-eq1.true in
    rw (signed-whole c.args.sort c.args.x.numerator c.args.x.denominator d, whole-power c.args.sort c.args.x c.args.z c.args.n d c.den.ensures.lowest c.requires.raises) e
