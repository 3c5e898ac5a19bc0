use Rattle.alg_procedures.proofs.table.call_named.Goals as goal

pub returns-in-NormNum-clause-answer : goal.returns-in-NormNum-clause-answer
returns-in-NormNum-clause-answer g c = rw c.in-NormNum.is c.call_norm_num.ensures.answer
