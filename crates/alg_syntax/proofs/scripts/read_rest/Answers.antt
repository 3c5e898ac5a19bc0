use Rattle.std.proofs.Common.{Some, sym, ap, ◌∙◌}
use Rattle.alg_syntax.specs.Reading.{read_further, separates}
use Rattle.alg_syntax.proofs.Many.{kept_on, read_out, read_fails, shorter, found_some, found_none}
use Rattle.alg_syntax.proofs.ScriptReadings.{further_list}
use Rattle.alg_syntax.proofs.scripts.read_rest.Goals as goal

pub steps-preserved : goal.steps-preserved
steps-preserved c =
    let more = sym c.separates.ensures ∙ c.steps-test.true in
    let e = found_some _ _ _ _ c.in_ok-step.ensures c.in-Some.is in
    kept_on read_further separates _ _ _ _ further_list _ _ _ c.steps.left _ _ c.steps.invariant more e c.in_ok-push.ensures.items

pub steps-smaller : goal.steps-smaller
steps-smaller c =
    let more = sym c.separates.ensures ∙ c.steps-test.true in
    let e = found_some _ _ _ _ c.in_ok-step.ensures c.in-Some.is in
    shorter read_further separates _ _ _ _ further_list c.steps.left _ _ more e

pub returns-in_default : goal.returns-in_default
returns-in_default c =
    let more = sym c.separates.ensures ∙ c.steps-test.true in
    let e = found_none _ _ _ c.in_ok-step.ensures c.in_default.is in
    read_fails read_further separates _ _ c.steps.left c.steps.invariant more e

pub returns : goal.returns
returns c =
    let more = sym c.separates.ensures ∙ c.steps-test.false in
    ap (λ xs. Some (xs, c.steps.left)) c.of.ensures ∙ read_out read_further separates _ _ c.steps.left c.steps.invariant more
