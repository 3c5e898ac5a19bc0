use Rattle.std.proofs.Common.{refl}
use Rattle.alg_report.proofs.Reaching.{did_none, did_plan}
use Rattle.alg_run.proofs.Working.{goal_done, goal_tally, has_entry, nothing_declared}
use Rattle.alg_run.proofs.commands.do_command.Goals as goal

pub returns-in-Declares-clause-told : goal.returns-in-Declares-clause-told
returns-in-Declares-clause-told g c = nothing_declared _ _ _ c.args.file.now.shared _ c.args.file.now.arena c.args.command.now _ c.in-Declares.is

pub returns-in-Err-clause-told : goal.returns-in-Err-clause-told
returns-in-Err-clause-told g c = did_none _ _ _ _ refl refl

pub do_goal-requires-clause-entry : goal.do_goal-requires-clause-entry
do_goal-requires-clause-entry g c = has_entry _ _ _ _ _ c.in-Ok.ensures

pub returns-in-Ok-clause-told : goal.returns-in-Ok-clause-told
returns-in-Ok-clause-told g c =
    did_plan _ _ _ _ _ (goal_done _ _ c.args.file.now.shared _ _ c.args.file.now.arena c.args.command.now c.in-Goal.label c.in-Goal.line c.in-Goal.prefix c.in-Goal.local c.in-Goal.stmt c.in-Goal.script _ _ _ _ c.in-Goal.is
    c.as_str.ensures c.as_slice.ensures c.as_slice-in-Goal.ensures c.number_for-number.ensures.number c.in-Ok.ensures) c.do_goal.ensures.told

pub returns-in-Ok-clause-tally : goal.returns-in-Ok-clause-tally
returns-in-Ok-clause-tally g c =
    goal_tally _ c.args.file.now.shared _ c.args.file.now.arena c.args.command.now c.in-Goal.label c.in-Goal.line c.in-Goal.prefix c.in-Goal.local c.in-Goal.stmt c.in-Goal.script _ _ _ _ _ _ c.in-Goal.is c.as_slice.ensures c.as_slice-in-Goal.ensures
    c.in-Ok.ensures c.do_goal.ensures.tally
