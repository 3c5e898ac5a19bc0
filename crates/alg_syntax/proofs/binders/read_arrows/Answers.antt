use Rattle.std.proofs.Common.{Some, ap, ◌∙◌}
use Rattle.std.specs.Prelude.{is_some, option_and_then}
use Rattle.std.proofs.lemmas.Bool.{cond-true, cond-false}
use Rattle.alg_syntax.specs.declared.signs.Fixed.TheVariants.{Arrow}
use Rattle.alg_syntax.specs.Front.{after_fixed, name_first}
use Rattle.alg_syntax.specs.Parsers.{behind}
use Rattle.alg_syntax.specs.Reading.{has_arrow}
use Rattle.alg_syntax.proofs.Many.{kept_on, read_out, read_fails, found_some, found_none}
use Rattle.alg_syntax.proofs.StatementReadings.{arrows_list}
use Rattle.alg_syntax.proofs.binders.read_arrows.Goals as goal

pub arrows-preserved : goal.arrows-preserved
arrows-preserved c =
    let passed = c.skip_fixed.ensures.after ∙ cond-true _ _ _ c.arrows-test.true in
    let e = found_some _ _ _ _ c.take_name.ensures.name c.in-Some.is in
    kept_on (behind (after_fixed Arrow) name_first) has_arrow _ _ _ _ arrows_list _ _ _ c.arrows.left _ _ c.arrows.invariant (ap is_some passed) (ap (option_and_then name_first) passed ∙ e) c.in_ok-push.ensures.items

pub returns-in_default : goal.returns-in_default
returns-in_default c =
    let passed = c.skip_fixed.ensures.after ∙ cond-true _ _ _ c.arrows-test.true in
    let e = found_none _ _ _ c.take_name.ensures.name c.in_default.is in
    read_fails (behind (after_fixed Arrow) name_first) has_arrow _ _ c.arrows.left c.arrows.invariant (ap is_some passed) (ap (option_and_then name_first) passed ∙ e)

pub returns : goal.returns
returns c =
    let passed = c.skip_fixed.ensures.after ∙ cond-false _ _ _ c.arrows-test.false in
    let stays = c.skip_fixed.ensures.stays c.arrows-test.false in
    (λ i. Some (c.of.ensures i, stays i)) ∙ read_out (behind (after_fixed Arrow) name_first) has_arrow _ _ c.arrows.left c.arrows.invariant (ap is_some passed)
