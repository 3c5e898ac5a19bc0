use Rattle.std.proofs.Common.{refl, ap}
use Rattle.alg_report.specs.Effects.{appends}
use Rattle.alg_report.proofs.Doing.{does_append}
use Rattle.alg_report.proofs.Reaching.{did_one, did_part}
use Rattle.alg_run.proofs.events.append.Goals as goal

pub returns-in-Ok-clause-told : goal.returns-in-Ok-clause-told
returns-in-Ok-clause-told g c =
    let added = c.in-Ok.ensures.told in
    did_one _ _ _ (appends added.0) _ (does_append added.0 _ _ added.3) (ap (λ l. appends l) added.2)

pub returns-in-Err-clause-told : goal.returns-in-Err-clause-told
returns-in-Err-clause-told g c =
    let added = c.in-Err.ensures.told in
    did_part _ _ _ (appends added.0) _ refl (does_append added.0 _ _ added.3) (added.0, added.1, refl)
