use Rattle.alg_run.proofs.Working.{quiet}
use Rattle.alg_run.proofs.events.say_if.Goals as goal

pub returns-in-false-clause-told : goal.returns-in-false-clause-told
returns-in-false-clause-told g c = quiet _ c.args.aloud c.args.bytes.now _ c.in-false.is
