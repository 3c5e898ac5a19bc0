use Rattle.alg_scripts.proofs.fates.text_of_failure.Goals as goal

pub returns : goal.returns
returns c = rw c.text-why.ensures at c.format.ensures.ok
