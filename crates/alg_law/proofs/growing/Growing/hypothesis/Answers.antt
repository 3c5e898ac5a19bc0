use Rattle.std.proofs.Common.{◌≡◌, ◌∙◌, ap, sym, subst, List, Option, Some, None, slice_get}
use Rattle.std.specs.Prelude.{option_and_then}
use Rattle.alg_law.specs.Places.{statement_in}
use Rattle.alg_terms.specs.Tree.{Statement}
use Rattle.alg_law.specs.Declarations.{Declaration, hypotheses}
use Rattle.alg_law.specs.Lending.{IsGiven}
use Rattle.alg_law.proofs.PlaceLemmas.{found, missed}
use Rattle.alg_law.proofs.growing.Growing.hypothesis.Goals as goal

pub returns-in-Some : goal.returns-in-Some
returns-in-Some c =
    let v : c.self.inside.declared ≡ c.args.self.now = c.self.view_is in
    let e : slice_get c.self.inside.places.items c.args.i ≡ Some c.in-Some.k = ap (λ ks. slice_get ks c.args.i) (sym c.deref.ensures.value) ∙ sym c.number_at.ensures ∙ c.in-Some.is in
    let f = found c.self.inside.declared c.self.inside.places.items c.args.i c.self.invariant.places c.in-Some.k e in
    subst (λ (x : List Declaration). IsGiven c.statement_at.result (slice_get (hypotheses x) c.args.i)) v
    (subst (λ (o : Option Statement). IsGiven c.statement_at.result o) f
    (subst (λ (x : List Declaration). IsGiven c.statement_at.result (option_and_then statement_in (slice_get x c.in-Some.k))) c.declarations-lent.ensures.list c.statement_at.ensures))

pub returns-in-None : goal.returns-in-None
returns-in-None c =
    let v : c.self.inside.declared ≡ c.args.self.now = c.self.view_is in
    let e : slice_get c.self.inside.places.items c.args.i ≡ None = ap (λ ks. slice_get ks c.args.i) (sym c.deref.ensures.value) ∙ sym c.number_at.ensures ∙ c.in-None.is in
    subst (λ (x : List Declaration). slice_get (hypotheses x) c.args.i ≡ None) v (missed c.self.inside.declared c.self.inside.places.items c.args.i c.self.invariant.places e)
