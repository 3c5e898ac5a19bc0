use Rattle.alg_cli.proofs.program.run.Goals as goal

pub returns-clause-answers : goal.returns-clause-answers
returns-clause-answers g c = rw (c.deref.ensures.value, c.deref-2.ensures.value) at c.run_by.ensures.answers

pub returns-clause-usage : goal.returns-clause-usage
returns-clause-usage g c = rw (c.deref.ensures.value, c.deref-2.ensures.value) at c.run_by.ensures.usage

pub returns-clause-bad : goal.returns-clause-bad
returns-clause-bad g c = rw (c.deref.ensures.value, c.deref-2.ensures.value) at c.run_by.ensures.bad

pub returns-clause-complete : goal.returns-clause-complete
returns-clause-complete g c = rw (c.deref.ensures.value, c.deref-2.ensures.value) at c.run_by.ensures.complete
