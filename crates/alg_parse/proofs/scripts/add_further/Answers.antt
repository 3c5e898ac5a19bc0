use Rattle.std.proofs.Common.{◌≡◌, ℕ, ◌+◌, suc, arith, ◌∷◌, sym, ap, ◌∙◌, subst, drop}
use Rattle.std.proofs.Math.Seq.{drop-cons}
use Rattle.alg_expr.proofs.ArenaLaws.{Extends-then}
use Rattle.alg_parse.proofs.CallLaws.{FurtherCalled, further_on}
use Rattle.alg_parse.proofs.scripts.add_further.Goals as goal

pub loop-step-preserved : goal.loop-step-preserved
loop-step-preserved c =
    let s = c.args.scope.now in
    let k = c.args.sort in
    let xs = c.args.further.now in
    let i = c.loop-step.step-index in
    let x = c.step-item.result in
    let ts = c.loop-step.arena in
    let us = c.add_step.new.arena in
    let ps = c.loop-step.procs.items in
    let qs = c.add_step.new.procs.items in
    let e : drop i xs ≡ x ∷ drop (suc i) xs = drop-cons xs i x c.loop-step-test.true ∙ ap (λ y. y ∷ drop (suc i) xs) (sym c.step-item.is) in
    record {
      kept = Extends-then _ _ _ c.loop-step.invariant.kept c.in_ok-add_step.ensures.kept;
      told = λ cs h. subst (λ (j : ℕ). FurtherCalled s k xs (drop j xs) us qs cs) (let z : suc i ≡ i + 1 = omega arith in z)
          (further_on s k xs (drop (suc i) xs) x ts us ps qs cs (subst (λ rest. FurtherCalled s k xs rest ts ps cs) e (c.loop-step.invariant.told cs h)) c.in_ok-add_step.ensures.told);
    }
