use Rattle.std.proofs.Common.{Some, ap, ◌∙◌}
use Rattle.std.specs.Prelude.{is_some}
use Rattle.alg_syntax.specs.Front.{name_first}
use Rattle.alg_syntax.specs.Reading.{has_name}
use Rattle.alg_syntax.proofs.Many.{kept_on, read_out, found_some, found_none, if_none}
use Rattle.alg_syntax.proofs.StatementReadings.{names_list}
use Rattle.alg_syntax.proofs.binders.read_names.Goals as goal

pub names-preserved : goal.names-preserved
names-preserved c =
    let e = found_some _ _ _ _ c.take_name.ensures.name c.in-Some.is in
    kept_on name_first has_name _ _ _ _ names_list _ _ _ c.names.left _ _ c.names.invariant (ap is_some e) e c.in_ok-push.ensures.items

pub returns : goal.returns
returns c =
    let e = found_none _ _ _ c.take_name.ensures.name c.in_default.is in
    let stays = if_none _ _ c.take_name.ensures.stays c.in_default.is in
    (λ i. Some (c.of.ensures i, stays i)) ∙ read_out name_first has_name _ _ c.names.left c.names.invariant (ap is_some e)
