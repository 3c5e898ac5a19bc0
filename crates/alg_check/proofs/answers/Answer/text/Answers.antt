use Rattle.alg_check.proofs.answers.Answer.text.Goals as goal

pub returns-in-AcceptedFrom : goal.returns-in-AcceptedFrom
returns-in-AcceptedFrom c = rw c.in-AcceptedFrom.is (rw c.as_str-given.ensures at c.format-in-AcceptedFrom.ensures.ok)

pub returns-in-Accepted : goal.returns-in-Accepted
returns-in-Accepted c = rw c.in-Accepted.is c.format-in-Accepted.ensures.ok
