use Rattle.alg_scripts.proofs.Concluding.{none_given, closed_is}
use Rattle.alg_scripts.proofs.finishing.closed.Goals as goal

pub check-requires-clause-may : goal.check-requires-clause-may
check-requires-clause-may c = none_given _ _ c.requires.none.given

pub returns : goal.returns
returns c = closed_is _ _ _ _ _ c.requires.none.given c.in_ok-proof.ensures
