use Rattle.std.proofs.Common.{ap, ◌∙◌, sym, subst}
use Rattle.alg_sums.specs.Rational.{rational}
use Rattle.alg_horner.specs.Form.{constant}
use Rattle.alg_horner.specs.Powers.{IsPowerOf}
use Rattle.alg_horner.proofs.Powers.{power_start}
use Rattle.alg_horner.proofs.form.Horner.pow.Goals as goal

pub returns-then-n-eq0 : goal.returns-then-n-eq0
returns-then-n-eq0 g c =
    subst (λ n. IsPowerOf rational c.args.self.now n c.in_ok-form.form) (sym c.if-n-eq0.true)
    (power_start rational c.args.self.now c.in_ok-form.form (c.in_ok-form.ensures ∙ ap constant c.one.ensures))
