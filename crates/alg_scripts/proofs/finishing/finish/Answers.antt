use Rattle.alg_scripts.proofs.finishing.finish.Goals as goal

pub closed-requires-clause-none : goal.closed-requires-clause-none
closed-requires-clause-none c = rw c.in-Closed.is at c.requires.proves

pub returns-in-Closed : goal.returns-in-Closed
returns-in-Closed c = rw c.in-Closed.is c.closed.ensures

pub opened-requires-clause-open : goal.opened-requires-clause-open
opened-requires-clause-open c = rw c.in-Open.is at c.requires.proves

pub returns-in-Open : goal.returns-in-Open
returns-in-Open c = rw c.in-Open.is c.opened.ensures
