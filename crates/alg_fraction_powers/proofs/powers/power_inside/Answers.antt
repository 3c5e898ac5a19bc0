use Rattle.std.proofs.Common.{ap}
use Rattle.alg_fractions.proofs.FractionLemmas.{back}
use Rattle.alg_fraction_powers.proofs.PowerNumbers.{power-reduced}
use Rattle.alg_fraction_powers.proofs.PowerLemmas.{shown-quotient, power-not-whole}
use Rattle.alg_fraction_powers.proofs.powers.power_inside.Goals as goal

pub quotient_power-requires-clause-top : goal.quotient_power-requires-clause-top
quotient_power-requires-clause-top c =
    rw (back c.num-p.result c.num-p.ensures.small, back c.num-m.result c.num-m.ensures.small, c.num-p.ensures.number, c.num-m.ensures.number)
    (ap (λ q. q.numerator) (power-reduced c.args.x c.args.z c.args.n c.den.ensures.lowest c.requires.raises))

pub quotient_power-requires-clause-bottom : goal.quotient_power-requires-clause-bottom
quotient_power-requires-clause-bottom c =
    rw (c.den-2.ensures.number, c.den.ensures.number)
    (ap (λ q. q.denominator) (power-reduced c.args.x c.args.z c.args.n c.den.ensures.lowest c.requires.raises))

pub returns-clause-turns : goal.returns-clause-turns
returns-clause-turns c =
    let e = rw (back c.num-p.result c.num-p.ensures.small, back c.num-m.result c.num-m.ensures.small, c.num-p.ensures.number, c.num-m.ensures.number, c.den-2.ensures.number, c.den.ensures.number) at c.quotient_power.ensures.turns in
    let more = power-not-whole c.args.x c.args.z c.args.n c.den.ensures.lowest c.requires.over c.requires.above c.requires.raises in
    rw (shown-quotient c.args.sort c.args.x c.requires.over, shown-quotient c.args.sort c.args.z more) e
