use Rattle.std.proofs.Common.{◌∙◌}
use Rattle.alg_report.specs.Seen.{told_seen}
use Rattle.alg_run.proofs.Working.{at_next, cut_at}
use Rattle.alg_run.proofs.commands.do_commands.Goals as goal

pub loop-command-preserved : goal.loop-command-preserved
loop-command-preserved g c =
    let kept = c.do_command.ensures.faults.kept (rw c.in_ok-do_command.was (λ e. cc)) in
    record {
      progress = at_next _ _ c.args.file.now.shared (told_seen c.args.file.now.arena) c.as_slice-commands.result.now c.loop-command.command-index c.command-item.result _ _ _ _ _ _ _ _ c.loop-command-test.true c.command-item.is
          c.loop-command.invariant.progress c.do_command.ensures.told c.in_ok-do_command.was (rw c.in_ok-do_command.was at c.do_command.ensures.tally);
      faults = kept ∙ c.loop-command.invariant.faults;
      complaint_faults = c.do_command.ensures.faults.complaint_faults ∙ c.loop-command.invariant.complaint_faults;
      made = c.do_command.ensures.made ∙ c.loop-command.invariant.made;
    }

pub returns-in_err-do_command-clause-told : goal.returns-in_err-do_command-clause-told
returns-in_err-do_command-clause-told g c =
    rw c.as_slice-commands.ensures at
    (cut_at _ _ c.args.file.now.shared (told_seen c.args.file.now.arena) c.as_slice-commands.result.now c.loop-command.command-index c.command-item.result _ _ _ _ _ _ _ c.loop-command-test.true c.command-item.is
    c.loop-command.invariant.progress c.do_command.ensures.told c.from_residual.ensures.0)
