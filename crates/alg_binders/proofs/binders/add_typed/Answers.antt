use Rattle.std.proofs.Common.{rules, ◌≡◌, ℕ, List, [], ◌∷◌, map, None, sym, subst}
use Rattle.std.specs.Prelude.{IfNone, IfOk}
use Rattle.alg_law.specs.Declarations.{declarations_of}
use Rattle.alg_binders.specs.Binders.{text_of, names_of, taken_faults, domain_faults, declared_as}
use Rattle.alg_binders.specs.Said.{said_of}
use Rattle.alg_binders.specs.Texts.{texts, AreNew}
use Rattle.alg_binders.proofs.Kept.{declarations_on}
use Rattle.alg_binders.proofs.Steps.{typed_adds}
use Rattle.alg_binders.proofs.TakenLaws.{new_names}
use Rattle.alg_binders.proofs.binders.add_typed.Goals as goal

pub add_names-requires-clause-fresh : goal.add_names-requires-clause-fresh
add_names-requires-clause-fresh c =
    let s = c.args.scope.now in
    let t = c.args.typed.now in
    let n : c.in_ok-cause.field-0 ≡ None = search rules in
    let a = new_names s (names_of t) (subst (λ o. IfNone o (taken_faults s [] (names_of t) ≡ [])) n c.in_ok-cause.ensures.none) in
    subst (λ ws. AreNew (texts s.names) (t.first.text ∷ map text_of ws)) (sym c.as_slice.ensures) a

pub returns-in_ok-add_names-in-Ok-clause-good : goal.returns-in_ok-add_names-in-Ok-clause-good
returns-in_ok-add_names-in-Ok-clause-good c =
    let s = c.args.scope.now in
    let t = c.args.typed.now in
    let ts = c.elaborate_domain.new.arena in
    let n : c.in_ok-cause.field-0 ≡ None = search rules in
    let g = subst (λ r. IfOk r (λ d. (domain_faults s t.domain ≡ []) × ((x : List ℕ) → said_of ts d x ≡ declared_as s t.domain x))) c.in-Ok.is c.in_ok-said.ensures.good in
    typed_adds s _ t (said_of ts c.in-Ok.said) c.as_slice.result.now (declarations_of c.args.arena.now c.args.local.now.items) (declarations_of ts c.args.local.now.items) _ (subst (λ o. IfNone o (taken_faults s [] (names_of t) ≡ [])) n c.in_ok-cause.ensures.none) g.0 g.1 c.as_slice.ensures c.in_ok-add_names-in-Ok.ensures.entered (declarations_on c.args.arena.now ts c.args.local.now.items c.in_ok-said.ensures.kept c.requires) c.in_ok-add_names-in-Ok.ensures.local
