use Rattle.std.proofs.Common.{◌≡◌, ℕ, List, ◌∷◌, Some, sym, ap, ◌∙◌, subst}
use Rattle.std.specs.Prelude.{IfSome}
use Rattle.alg_elaborate.specs.Faults.{first}
use Rattle.alg_binders.specs.Binders.{taken_faults}
use Rattle.alg_binders.specs.Texts.{texts, texts_of}
use Rattle.alg_binders.proofs.taken.taken_fault.Goals as goal

pub returns-in-Some-clause-found : goal.returns-in-Some-clause-found
returns-in-Some-clause-found c =
    let t = c.args.typed.now in
    let s = c.args.scope.now in
    let f = subst (λ o. IfSome o (λ cause. (xs : List (List ℕ)) → first (taken_faults s (texts c.new-before.result) (t.first.text ∷ xs)) ≡ Some cause)) c.in-Some.is c.in_ok-cause.ensures.found in
    ap (λ ds. first (taken_faults s (texts ds) (t.first.text ∷ texts_of t.more))) (sym c.new-before.ensures) ∙ f (texts_of t.more)
