use Rattle.std.proofs.Common.{◌≡◌, ◌∙◌, ◌≤◌, length, ap, arith}
use Rattle.std.proofs.lemmas.List.{length-map}
use Rattle.alg_expr.specs.Ids.{statement_of}
use Rattle.alg_build.specs.Book.{Book}
use Rattle.alg_build.proofs.AnswerLemmas.{concludes-within}
use Rattle.alg_proof.specs.Lines.{step_of, steps_of}
use Rattle.alg_certificate.specs.Numbers.{max_number}
use Rattle.alg_scripts.proofs.Entered.{entry_is, same_claim, given_in}
use Rattle.alg_scripts.proofs.finishing.check.Goals as goal

pub back_to-requires : goal.back_to-requires
back_to-requires c = concludes-within _ _ _ c.requires.concludes

pub entry_for-requires-clause-given : goal.entry_for-requires-clause-given
entry_for-requires-clause-given c = given_in _ _ _ c.into_parts-base.ensures.given

pub returns-in-Ok : goal.returns-in-Ok
returns-in-Ok c =
    let parts = c.into_parts-base.result in
    let ends = statement_of c.args.cx.trees c.args.goal in
    let lines : steps_of parts.arena c.deref.result.now ≡ c.back_to.new.self.steps = ap (λ ls. steps_of parts.arena ls) c.deref.ensures.value ∙ c.into_parts-base.ensures.lines in
    let base : parts.base ≡ c.args.cx.theory.declarations = c.into_parts-base.ensures.base ∙ ap (λ (b : Book). b.theory.declarations) c.back_to.ensures.lines in
    let few : length parts.base ≤ max_number = omega (arith, c.len-declarations.ensures.len, c.len-declarations.type_inv) in
    let short : length (steps_of parts.arena c.deref.result.now) ≤ max_number = omega (arith, length-map c.deref.result.now (step_of parts.arena), ap length c.deref.ensures.value, c.len-lines.ensures, c.len-lines.type_inv) in
    let given = c.into_parts-base.ensures.statement ∙ ap (λ (b : Book). b.theory.given) c.back_to.ensures.lines in (
      c.in-Ok.ensures.claim ∙ same_claim _ _ _ _ parts.given _ c.args.goal base (c.into_parts-base.ensures.arena ∙ ap (λ (b : Book). b.trees) c.back_to.ensures.lines) given,
      entry_is c.args.number c.args.cx.theory _ _ ends _ _ c.in_ok-entry.entry c.requires.number c.requires.arguments base few c.requires.lemmas c.requires.may
          (rw (ap (λ (b : Book). b.theory) c.back_to.ensures.lines) at (c.into_parts-base.ensures.valid ends (c.back_to.ensures.last ends c.requires.concludes.line))) lines short given c.in_ok-entry.ensures,
    )
