use Rattle.std.proofs.Common.{refl}
use Rattle.alg_report.proofs.Reaching.{did_none}
use Rattle.alg_run.proofs.commands.say_last.Goals as goal

pub returns-in-Err-clause-told : goal.returns-in-Err-clause-told
returns-in-Err-clause-told g c = did_none _ _ _ _ refl refl
