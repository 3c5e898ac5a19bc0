use Rattle.alg_scripts.proofs.Concluding.{some_given, open_is}
use Rattle.alg_scripts.proofs.finishing.opened.Goals as goal

pub show-requires-clause-here : goal.show-requires-clause-here
show-requires-clause-here c = rw c.arena.ensures c.requires.open.here

pub show-requires-clause-sorted : goal.show-requires-clause-sorted
show-requires-clause-sorted c = rw (c.base.ensures, c.arena.ensures) c.requires.open.may.sorted

pub check-requires-clause-may : goal.check-requires-clause-may
check-requires-clause-may c = some_given _ _ _ c.requires.open.given c.requires.open.may

pub returns : goal.returns
returns c = open_is _ _ _ _ _ _ _ c.requires.open.given c.in_ok-proof.ensures (rw (c.base.ensures, c.arena.ensures) at c.in_ok-text.ensures.text)
