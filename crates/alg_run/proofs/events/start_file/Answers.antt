use Rattle.alg_report.proofs.Reaching.{did_then, did_more}
use Rattle.alg_run.proofs.events.start_file.Goals as goal

pub returns-in_err-create-clause-told : goal.returns-in_err-create-clause-told
returns-in_err-create-clause-told g c = did_more _ _ _ _ _ _ c.from_residual.ensures.0 c.create.ensures.told

pub returns-clause-told : goal.returns-clause-told
returns-clause-told g c = did_then _ _ _ _ _ _ _ _ c.in_ok-create.was c.create.ensures.told c.append.ensures.told
