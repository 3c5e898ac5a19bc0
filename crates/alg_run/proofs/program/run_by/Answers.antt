use Rattle.alg_run.proofs.Answering.{ended, bad_input, complete}
use Rattle.alg_run.proofs.program.run_by.Goals as goal

pub returns-clause-answers : goal.returns-clause-answers
returns-clause-answers g c = ended _ _ _ _ _ c.work-ending.result _ _ _ _ c.status.ensures c.work-ending.ensures.faults.complaint_faults c.work-ending.ensures.answers c.complain.ensures.told

pub returns-clause-bad : goal.returns-clause-bad
returns-clause-bad g c = bad_input _ _ _ _ c.work-ending.result _ c.status.ensures c.work-ending.ensures.answers

pub returns-clause-complete : goal.returns-clause-complete
returns-clause-complete g c =
    complete _ _ _ _ c.work-ending.result _ _ _ _ c.status.ensures c.complain.ensures.faults c.work-ending.ensures.answers c.work-ending.ensures.faults.failed
