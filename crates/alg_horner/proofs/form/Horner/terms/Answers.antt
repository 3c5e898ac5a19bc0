use Rattle.std.proofs.Common.{subst}
use Rattle.alg_sums.specs.Rational.{rational}
use Rattle.alg_horner.specs.Form.{IsForm}
use Rattle.alg_horner.proofs.Counting.{has_terms}
use Rattle.alg_horner.proofs.form.Horner.terms.Goals as goal

pub returns-clause-monomials : goal.returns-clause-monomials
returns-clause-monomials g c = has_terms rational c.args.self.now (subst (λ f. IsForm rational f) c.self.view_is c.self.invariant.form)
