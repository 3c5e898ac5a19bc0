use Rattle.std.proofs.Common.{refl, inr, false}
use Rattle.alg_host.specs.Host.{Creates}
use Rattle.alg_report.specs.Effects.{asks, creates}
use Rattle.alg_report.proofs.Doing.{does_ask, does_create}
use Rattle.alg_report.proofs.Reaching.{did_one, did_part, did_none}
use Rattle.alg_run.proofs.events.create.Goals as goal

pub returns-in-Ok-clause-told : goal.returns-in-Ok-clause-told
returns-in-Ok-clause-told g c = did_one _ _ _ (creates c.args.path.now) _ (does_create c.args.path.now _ _ c.in-Ok.ensures.told) refl

pub returns-in-Err-Failed-clause-told : goal.returns-in-Err-Failed-clause-told
returns-in-Err-Failed-clause-told g c =
    did_part _ _ _ (asks (Creates c.args.path.now false)) _ refl (does_ask (Creates c.args.path.now false) _ _ (rw c.in-Err-Failed.field-0-is at c.in-Err-Failed.ensures.told)) (inr refl)

pub returns-in-Err-Memory-clause-told : goal.returns-in-Err-Memory-clause-told
returns-in-Err-Memory-clause-told g c = did_none _ _ _ _ refl (rw c.in-Err-Memory.field-0-is at c.in-Err-Memory.ensures.told)
