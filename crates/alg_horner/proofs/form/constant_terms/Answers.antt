use Rattle.std.proofs.Common.{rules, sym, ◌∙◌, IsTrue}
use Rattle.alg_sums.specs.Rational.{rational}
use Rattle.alg_horner.proofs.Negating.{terms_nil, terms_one}
use Rattle.alg_horner.proofs.form.constant_terms.Goals as goal

pub returns-then-same-clause-count : goal.returns-then-same-clause-count
returns-then-same-clause-count g c =
    let t : IsTrue c.same.result = search rules in
    terms_nil rational _ (c.same.ensures.0 t ∙ c.zero.ensures)

pub returns-else-same-clause-count : goal.returns-else-same-clause-count
returns-else-same-clause-count g c = terms_one rational _ (λ e. let t = c.same.ensures.1 (e ∙ sym c.zero.ensures) in search (rules, t))
