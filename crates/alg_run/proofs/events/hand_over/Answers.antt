use Rattle.std.proofs.Common.{refl}
use Rattle.alg_report.specs.Effects.{hands_over}
use Rattle.alg_report.proofs.Doing.{does_hand_over}
use Rattle.alg_report.proofs.Reaching.{did_one, did_none}
use Rattle.alg_run.proofs.events.hand_over.Goals as goal

pub returns-in-Ok-clause-told : goal.returns-in-Ok-clause-told
returns-in-Ok-clause-told g c = did_one _ _ _ (hands_over c.args.proved) _ (does_hand_over c.args.proved _ _ c.in-Ok.ensures.told) (c.follows.ensures.derivable, refl)

pub returns-in-Err-clause-told : goal.returns-in-Err-clause-told
returns-in-Err-clause-told g c = did_none _ _ _ _ refl c.in-Err.ensures.told
