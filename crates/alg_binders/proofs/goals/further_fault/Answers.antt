use Rattle.std.proofs.Common.{rules, ◌≡◌, ℕ, ◌+◌, suc, arith, ◌∷◌, None, sym, ap, ◌∙◌, drop}
use Rattle.std.proofs.Math.Seq.{drop-cons}
use Rattle.alg_elaborate.specs.Faults.{first}
use Rattle.alg_binders.specs.CommandFaults.{step_faults, further_faults}
use Rattle.alg_binders.proofs.GoalParts.{first_skip}
use Rattle.alg_binders.proofs.Steps.{first_left}
use Rattle.alg_binders.proofs.goals.further_fault.Goals as goal

pub returns-in-Some : goal.returns-in-Some
returns-in-Some c =
    let s = c.args.scope.now in
    let k = c.args.sort in
    let xs = c.args.further.now in
    let i = c.loop-step.step-index in
    let x = c.step-item.result in
    let e : drop i xs ≡ x ∷ drop (suc i) xs = drop-cons xs i x c.loop-step-test.true ∙ ap (λ y. y ∷ drop (suc i) xs) (sym c.step-item.is) in
    sym (c.loop-step.invariant ∙ (ap (λ r. first (further_faults s k r)) e ∙ first_left (step_faults s k x.step) (further_faults s k (drop (suc i) xs)) c.in-Some.cause (sym c.in_ok-cause.ensures ∙ c.in-Some.is)))

pub loop-step-preserved : goal.loop-step-preserved
loop-step-preserved c =
    let s = c.args.scope.now in
    let k = c.args.sort in
    let xs = c.args.further.now in
    let i = c.loop-step.step-index in
    let x = c.step-item.result in
    let e : drop i xs ≡ x ∷ drop (suc i) xs = drop-cons xs i x c.loop-step-test.true ∙ ap (λ y. y ∷ drop (suc i) xs) (sym c.step-item.is) in
    let n : c.in_ok-cause.field-0 ≡ None = search rules in
    c.loop-step.invariant ∙ (ap (λ r. first (further_faults s k r)) e ∙ (first_skip (step_faults s k x.step) (further_faults s k (drop (suc i) xs)) (sym c.in_ok-cause.ensures ∙ n) ∙ ap (λ (j : ℕ). first (further_faults s k (drop j xs))) (let z : suc i ≡ i + 1 = omega arith in z)))
