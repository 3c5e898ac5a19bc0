use Rattle.std.proofs.Common.{◌≡◌, map, take}
use Rattle.alg_steps.specs.Calling.{cover_of}
use Rattle.alg_report.specs.Seen.{told_seen}
use Rattle.alg_run.proofs.Working.{Progress}
use Rattle.alg_run.proofs.commands.do_commands.Given as goal

abbrev pub invariant-loop-command : goal.invariant-loop-command
invariant-loop-command g l = record {
  progress : Progress (record { certified = l.certified; aloud = l.aloud }) (g.P.Procedures.step (cover_of (λ x f. (goal.NumExt-dyn g (x.vtable, x.value)).covered x.value f) (λ x f. (goal.SignExt-dyn g (x.vtable, x.value)).handled x.value f) l.exts.num.now l.exts.num_on.now l.exts.sign.now l.exts.sign_on.now)) l.fn.file.shared (map (told_seen l.fn.file.arena) (take l.command-index l.commands)) (g.H.Host.told l.fn.host) (g.H.Host.told l.host) l.command-index l.tally;
  faults : g.H.Host.faults l.host ≡ g.H.Host.faults l.fn.host;
  complaint_faults : g.H.Host.complaint_faults l.host ≡ g.H.Host.complaint_faults l.fn.host;
  made : g.H.Host.made l.host ≡ g.H.Host.made l.fn.host;
}
