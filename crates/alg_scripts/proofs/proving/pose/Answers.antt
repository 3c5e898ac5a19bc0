use Rattle.std.proofs.Common.{◌∙◌, ap}
use Rattle.alg_build.specs.Book.{Book}
use Rattle.alg_proof.specs.LemmaRows.{rows_of}
use Rattle.alg_proof.specs.Steps.{Theory}
use Rattle.alg_scripts.proofs.Concluding.{still_sorted}
use Rattle.alg_scripts.proofs.proving.pose.Goals as goal

pub returns : goal.returns
returns c =
    let over = c.import.ensures.keeps.theory ∙ ap (λ (b : Book). b.theory) c.in_ok-cx.ensures in
    let declarations = ap (λ (t : Theory). t.declarations) over ∙ c.in_ok-base.ensures in
    record {
      declarations = declarations;
      lemmas = ap (λ (t : Theory). t.lemmas) over ∙ ap rows_of c.in_ok-lemmas.ensures.cases ∙ c.requires.lemmas;
      given = ap (λ (t : Theory). t.given) over;
      here = c.in_ok-goal.ensures.here;
      statement = c.in_ok-goal.ensures.statement;
      sorted = still_sorted _ _ _ _ declarations c.in_ok-goal.ensures.statement c.requires.goal.sorted;
    }
