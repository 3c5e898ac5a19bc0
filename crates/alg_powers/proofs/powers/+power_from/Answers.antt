use Rattle.std.proofs.Common.{◌-◌, ◌/◌, ◌<◌, arith}
use Rattle.alg_build.proofs.Lines.{grows-then}
use Rattle.alg_powers.proofs.PowerLemmas.{lesser-power}
use Rattle.alg_powers.proofs.powers.+power_from.Goals as goal

pub power_from-requires : goal.power_from-requires
power_from-requires t c =
    let l : c.args.n / 2 < c.args.n = omega (arith, c.if-n-eq0.false) in
    (omega (arith, l, c.decreases), (c.requires.first, (c.requires.first_small, (omega (arith, l, c.requires.exponent), lesser-power c.args.x.now (c.args.n / 2) c.args.n (omega (arith, l)) c.requires.small))))

pub power_from-requires-else-n-eq0-2 : goal.power_from-requires-else-n-eq0-2
power_from-requires-else-n-eq0-2 t c =
    let l : c.args.n - 1 < c.args.n = omega (arith, c.if-n-eq0.false) in
    (omega (arith, l, c.decreases), (c.requires.first, (c.requires.first_small, (omega (arith, l, c.requires.exponent), lesser-power c.args.x.now (c.args.n - 1) c.args.n (omega (arith, l)) c.requires.small))))

pub returns-in_ok-lesser-clause-grows : goal.returns-in_ok-lesser-clause-grows
returns-in_ok-lesser-clause-grows t c = grows-then _ _ _ c.power_from-else-n-eq0-2.ensures.grows c.next.ensures.grows
