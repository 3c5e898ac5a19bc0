use Rattle.alg_report.proofs.Reaching.{did_more, did_then}
use Rattle.alg_run.proofs.events.settle.Goals as goal

pub returns-in_err-certify-clause-told : goal.returns-in_err-certify-clause-told
returns-in_err-certify-clause-told g c = did_more _ _ _ _ _ _ c.from_residual.ensures.0 c.certify.ensures.told

pub returns-clause-told : goal.returns-clause-told
returns-clause-told g c = did_then _ _ _ _ _ _ _ _ c.in_ok-certify.was c.certify.ensures.told c.hand_over.ensures.told
