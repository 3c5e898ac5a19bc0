use Rattle.std.proofs.Common.{refl}
use Rattle.alg_report.proofs.Reaching.{did_none, did_more, did_then}
use Rattle.alg_run.proofs.commands.do_goal.Goals as goal

pub returns-in-Err-clause-told : goal.returns-in-Err-clause-told
returns-in-Err-clause-told g c = did_none _ _ _ _ refl refl

pub returns-in_err-settle_end-clause-told : goal.returns-in_err-settle_end-clause-told
returns-in_err-settle_end-clause-told g c = did_more _ _ _ _ _ _ c.from_residual.ensures.0 c.settle_end.ensures.told

pub returns-clause-told : goal.returns-clause-told
returns-clause-told g c = did_then _ _ _ _ _ _ _ _ c.in_ok-settle_end.was c.settle_end.ensures.told (rw (← c.in-Ok.ensures, ← c.as_bytes.ensures.value) c.say_if.ensures.told)
