use Rattle.std.proofs.Common.{◌≡◌, arith, sym, subst}
use Rattle.alg_sums.specs.Rational.{rational}
use Rattle.alg_horner.specs.Powers.{CanPower, HasSmallPower, IsPowerOf}
use Rattle.horner_runs.proofs.Atoms.{can_raise, small_raise, raised_size, raised_exponents}
use Rattle.horner_runs.proofs.raised.Goals as goal

pub pow-requires-clause-can : goal.pow-requires-clause-can
pow-requires-clause-can g c =
    let e : c.from.result ≡ c.args.power = c.from.ensures in
    subst (λ n. CanPower rational c.args.form.now n) (sym e) (can_raise c.args.form.now c.args.power c.requires.small c.requires.size)

pub pow-requires-clause-degree : goal.pow-requires-clause-degree
pow-requires-clause-degree g c =
    let e : c.from.result ≡ c.args.power = c.from.ensures in
    subst (λ n. HasSmallPower c.args.form.now n) (sym e) (small_raise c.args.form.now c.args.power (omega (arith, c.ranges.power)) c.requires.exponents)

pub returns-clause-size : goal.returns-clause-size
returns-clause-size g c =
    let e : c.from.result ≡ c.args.power = c.from.ensures in
    let m = subst (λ n. IsPowerOf rational c.args.form.now n c.in_ok-power.power) e c.in_ok-power.ensures in
    raised_size c.args.form.now c.in_ok-power.power c.args.power c.requires.small c.requires.size m

pub returns-clause-exponents : goal.returns-clause-exponents
returns-clause-exponents g c =
    let e : c.from.result ≡ c.args.power = c.from.ensures in
    let m = subst (λ n. IsPowerOf rational c.args.form.now n c.in_ok-power.power) e c.in_ok-power.ensures in
    raised_exponents c.args.form.now c.in_ok-power.power c.args.power c.requires.exponents m
