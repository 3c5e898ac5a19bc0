use Rattle.std.proofs.Common.{◌≡◌, ◌∙◌, List, ◌++◌, take, ap, subst}
use Rattle.std.specs.Prelude.{Result, IfOk}
use Rattle.alg_terms.specs.Tree.{Statement}
use Rattle.alg_law.specs.Declarations.{Declaration, declarations_of}
use Rattle.alg_law.specs.Rows.{Row}
use Rattle.alg_check.specs.declared.answers.Answer.{Answer}
use Rattle.alg_check.specs.Entries.{Entry}
use Rattle.alg_check.specs.Judging.{answer_over}
use Rattle.alg_check.proofs.judging.judge.Goals as goal

-- over declarations and a statement that are the same
over_same : {E : Type 0} (rows : List Row) (ds es : List Declaration) (s t : Statement) (e : Entry) (r : Result Answer E) → ds ≡ es → s ≡ t → IfOk r (λ a. a ≡ answer_over rows ds s e.given e.steps)
    → IfOk r (λ a. a ≡ answer_over rows es t e.given e.steps)
over_same rows ds es s t e r p q h =
    subst (λ (x : List Declaration). IfOk r (λ a. a ≡ answer_over rows x t e.given e.steps)) p (subst (λ (y : Statement). IfOk r (λ a. a ≡ answer_over rows ds y e.given e.steps)) q h)

pub returns : goal.returns
returns c = λ e spelled seen.
    over_same _ _ _ _ _ e c.judge_over.result (c.in_ok-base.ensures ∙ ap (λ ls. take c.args.goal.prefix c.args.file.now.shared ++ declarations_of c.args.file.now.arena ls) c.as_slice-local.ensures)
    c.in_ok-stmt.ensures.same (c.judge_over.ensures e spelled seen)
