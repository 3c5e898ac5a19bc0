use Rattle.alg_run.proofs.Working.{end_failed, end_closed, end_open}
use Rattle.alg_run.proofs.events.settle_end.Goals as goal

pub returns-in-Closed-clause-told : goal.returns-in-Closed-clause-told
returns-in-Closed-clause-told g c = end_closed _ _ c.args.number c.args.end _ _ c.in-Closed.is c.settle.ensures.told

pub returns-in-Open-clause-told : goal.returns-in-Open-clause-told
returns-in-Open-clause-told g c = end_open _ _ c.args.number c.args.end _ _ _ c.in-Open.is c.settle-in-Open.ensures.told

pub returns-clause-told : goal.returns-clause-told
returns-clause-told g c = end_failed _ c.args.number c.args.end _ _ _ c.in-Failed.is
