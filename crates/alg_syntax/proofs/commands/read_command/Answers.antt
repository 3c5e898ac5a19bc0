use Rattle.std.proofs.Common.{sym, ap, ◌∙◌}
use Rattle.alg_syntax.specs.Signs.{signs}
use Rattle.alg_syntax.specs.Reading.{read_any}
use Rattle.alg_syntax.proofs.Many.{found_some, found_none}
use Rattle.alg_syntax.proofs.CommandReadings.{command_found, command_only, none_read, more_left, one_reading}
use Rattle.alg_syntax.proofs.commands.read_command.Goals as goal

pub returns-in_err-command-clause-unique : goal.returns-in_err-command-clause-unique
returns-in_err-command-clause-unique c = one_reading (signs c.args.tokens.now)

pub returns-in_default-clause-only : goal.returns-in_default-clause-only
returns-in_default-clause-only c =
    let e = found_none _ _ _ c.in_ok-command.ensures c.in_default.is in
    none_read (signs c.args.tokens.now) (sym (ap read_any (sym c.of-left.ensures) ∙ e))

pub returns-in_default-clause-unique : goal.returns-in_default-clause-unique
returns-in_default-clause-unique c = one_reading (signs c.args.tokens.now)

pub returns-in-Some-first-clause-only : goal.returns-in-Some-first-clause-only
returns-in-Some-first-clause-only c =
    let e = found_some _ _ _ _ c.in_ok-command.ensures c.in-Some.is in
    more_left (signs c.args.tokens.now) _ _ _ _ (sym (ap read_any (sym c.of-left.ensures) ∙ e)) c.in-Some-first.ensures

pub returns-in-Some-first-clause-unique : goal.returns-in-Some-first-clause-unique
returns-in-Some-first-clause-unique c = one_reading (signs c.args.tokens.now)

pub returns-clause-found : goal.returns-clause-found
returns-clause-found c =
    let e = found_some _ _ _ _ c.in_ok-command.ensures c.in-Some.is in
    command_found (signs c.args.tokens.now) _ _ (sym (ap read_any (sym c.of-left.ensures) ∙ e)) c.in-None.ensures

pub returns-clause-only : goal.returns-clause-only
returns-clause-only c =
    let e = found_some _ _ _ _ c.in_ok-command.ensures c.in-Some.is in
    command_only (signs c.args.tokens.now) _ _ (sym (ap read_any (sym c.of-left.ensures) ∙ e))

pub returns-clause-unique : goal.returns-clause-unique
returns-clause-unique c = one_reading (signs c.args.tokens.now)
