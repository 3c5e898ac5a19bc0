use Rattle.std.proofs.Common.{rules, ◌≡◌, ℕ, ◌+◌, suc, arith, ◌∷◌, None, sym, ap, ◌∙◌, subst, drop}
use Rattle.std.specs.Prelude.{IfNone}
use Rattle.std.proofs.Math.Seq.{drop-cons}
use Rattle.alg_expr.proofs.ArenaLaws.{Extends-then}
use Rattle.alg_law.specs.Declarations.{declarations_of}
use Rattle.alg_binders.specs.Adding.{Adds}
use Rattle.alg_binders.specs.Binders.{binder_faults, declared_by}
use Rattle.alg_binders.proofs.Steps.{Walks, walks_on}
use Rattle.alg_binders.proofs.binders.add_binders.Goals as goal

pub loop-binder-preserved : goal.loop-binder-preserved
loop-binder-preserved c =
    let bs = c.args.binders.now in
    let i = c.loop-binder.binder-index in
    let b = c.binder-item.result in
    let before = declarations_of c.args.arena.now c.args.local.now.items in
    let told = declarations_of c.loop-binder.arena c.loop-binder.local.items in
    let more = declarations_of c.add_binder.new.arena c.add_binder.new.local.items in
    let e : drop i bs ≡ b ∷ drop (suc i) bs = drop-cons bs i b c.loop-binder-test.true ∙ ap (λ x. x ∷ drop (suc i) bs) (sym c.binder-item.is) in
    let n : c.in_ok-cause.field-0 ≡ None = search rules in
    let w = subst (λ rest. Walks c.args.scope.now bs before c.loop-binder.scope rest told) e c.loop-binder.invariant.walks in
    let a = subst (λ o. IfNone o (Adds (binder_faults c.loop-binder.scope b) (declared_by c.loop-binder.scope b) c.loop-binder.scope c.add_binder.new.scope told more)) n c.in_ok-cause.ensures.good in
    record {
      kept = Extends-then _ _ _ c.loop-binder.invariant.kept c.in_ok-cause.ensures.kept;
      here = c.in_ok-cause.ensures.here;
      walks = subst (λ (k : ℕ). Walks c.args.scope.now bs before c.add_binder.new.scope (drop k bs) more) (let z : suc i ≡ i + 1 = omega arith in z) (walks_on c.args.scope.now c.loop-binder.scope c.add_binder.new.scope bs (drop (suc i) bs) b before told more w a);
    }
