use Rattle.std.proofs.Common.{◌≡◌, ◌-◌, ◌∙◌, ap, subst, sym, List, Option, slice_get, arith}
use Rattle.alg_terms.specs.Tree.{Statement}
use Rattle.alg_law.specs.Declarations.{Declaration, hypotheses}
use Rattle.alg_law.specs.Lending.{IsGiven}
use Rattle.alg_law.specs.Prefixes.{line_at}
use Rattle.alg_law.proofs.PrefixLemmas.{line_at-before, hypothesis-first, hypothesis-rest}
use Rattle.alg_law.proofs.base.Base.hypothesis.Goals as goal

pub returns-then-i-self : goal.returns-then-i-self
returns-then-i-self c =
    let p = c.self.inside.prefix in
    let ds = c.self.inside.shared in
    let es = c.self.inside.local in
    let e : line_at (hypotheses c.args.self.now) c.args.number ≡ slice_get (hypotheses c.declared.result.now) (c.args.number - 1) =
    line_at-before (hypotheses c.args.self.now) c.args.number c.if-number-eq0.false
    ∙ ap (λ x. slice_get (hypotheses x) (c.args.number - 1)) (sym c.self.view_is)
    ∙ hypothesis-first p ds es (c.args.number - 1) (omega arith)
    ∙ ap (λ x. slice_get (hypotheses x) (c.args.number - 1)) (sym c.declared.ensures) in
    subst (λ (o : Option Statement). IsGiven c.hypothesis.result o) (sym e) c.hypothesis.ensures

pub returns-else-i-self : goal.returns-else-i-self
returns-else-i-self c =
    let p = c.self.inside.prefix in
    let ds = c.self.inside.shared in
    let es = c.self.inside.local in
    let e : line_at (hypotheses c.args.self.now) c.args.number ≡ slice_get (hypotheses es) (c.args.number - 1 - c.self.inside.given) =
    line_at-before (hypotheses c.args.self.now) c.args.number c.if-number-eq0.false
    ∙ ap (λ x. slice_get (hypotheses x) (c.args.number - 1)) (sym c.self.view_is)
    ∙ hypothesis-rest p ds es (c.args.number - 1) (omega arith)
    ∙ ap (λ k. slice_get (hypotheses es) (c.args.number - 1 - k)) (sym c.self.invariant.given) in
    subst (λ (o : Option Statement). IsGiven c.nth.result o) (sym e)
    (subst (λ (x : List Declaration). IsGiven c.nth.result (slice_get (hypotheses x) (c.args.number - 1 - c.self.inside.given))) c.declarations-lent.ensures.list c.nth.ensures)
