use Rattle.std.proofs.Common.{ap}
use Rattle.alg_horner.proofs.Canonical.{canonical}
use Rattle.alg_horner.specs.Form.{coefficient, IsForm}
use Rattle.alg_sums.specs.Rational.{rational}
use Rattle.std.proofs.Common.{subst}
use Rattle.alg_horner.proofs.form.Horner.same.Goals as goal

pub returns-clause-map : goal.returns-clause-map
returns-clause-map g c = (
  λ t m. ap (λ f. coefficient rational f m) (c.is_equal.ensures.0 t),
  λ s. c.is_equal.ensures.1 (canonical rational c.args.self.now c.args.other.now (subst (λ f. IsForm rational f) c.self.view_is c.self.invariant.form) (subst (λ f. IsForm rational f) c.other.view_is c.other.invariant.form) s),
)
