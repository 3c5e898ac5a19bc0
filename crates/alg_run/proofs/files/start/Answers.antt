use Rattle.alg_run.proofs.Working.{none_started}
use Rattle.alg_run.proofs.files.start.Goals as goal

pub returns-in-None-clause-told : goal.returns-in-None-clause-told
returns-in-None-clause-told g c = none_started _ _ _ c.in-None.is
