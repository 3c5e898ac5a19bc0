use Rattle.std.proofs.Common.{Some, sym, ap, ◌∙◌}
use Rattle.alg_syntax.specs.Reading.{read_binder, opens_binder}
use Rattle.alg_syntax.proofs.Many.{kept_on, read_out, read_fails, shorter, found_some, found_none}
use Rattle.alg_syntax.proofs.BinderReadings.{binders_list}
use Rattle.alg_syntax.proofs.binders.read_binders.Goals as goal

pub binders-preserved : goal.binders-preserved
binders-preserved c =
    let more = sym c.opens_binder.ensures ∙ c.binders-test.true in
    let e = found_some _ _ _ _ c.in_ok-binder.ensures c.in-Some.is in
    kept_on read_binder opens_binder _ _ _ _ binders_list _ _ _ c.binders.left _ _ c.binders.invariant more e c.in_ok-push.ensures.items

pub binders-smaller : goal.binders-smaller
binders-smaller c =
    let more = sym c.opens_binder.ensures ∙ c.binders-test.true in
    let e = found_some _ _ _ _ c.in_ok-binder.ensures c.in-Some.is in
    shorter read_binder opens_binder _ _ _ _ binders_list c.binders.left _ _ more e

pub returns-in_default : goal.returns-in_default
returns-in_default c =
    let more = sym c.opens_binder.ensures ∙ c.binders-test.true in
    let e = found_none _ _ _ c.in_ok-binder.ensures c.in_default.is in
    read_fails read_binder opens_binder _ _ c.binders.left c.binders.invariant more e

pub returns : goal.returns
returns c =
    let more = sym c.opens_binder.ensures ∙ c.binders-test.false in
    ap (λ xs. Some (xs, c.binders.left)) c.of.ensures ∙ read_out read_binder opens_binder _ _ c.binders.left c.binders.invariant more
