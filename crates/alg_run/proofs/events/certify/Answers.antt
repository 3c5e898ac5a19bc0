use Rattle.alg_run.proofs.Working.{certified, none_certified}
use Rattle.alg_run.proofs.events.certify.Goals as goal

pub returns-in-None-clause-told : goal.returns-in-None-clause-told
returns-in-None-clause-told g c = none_certified _ _ _ _ c.in-None.is

pub returns-in-Some-entry-clause-told : goal.returns-in-Some-entry-clause-told
returns-in-Some-entry-clause-told g c = certified _ _ c.args.number c.args.proof.now.proved c.args.proof.now.entry _ _ _ _ c.in-Some.is c.in-Some-entry.is c.deref.ensures.value c.requires.entry c.append.ensures.told
