use Rattle.alg_check.proofs.answers.text_of_bad_line.Goals as goal

pub returns : goal.returns
returns c = rw c.text_of_cause-why.ensures at c.format.ensures.ok
