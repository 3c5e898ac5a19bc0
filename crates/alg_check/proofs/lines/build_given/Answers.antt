use Rattle.alg_check.proofs.Meaning.{builds_given}
use Rattle.alg_check.proofs.lines.build_given.Goals as goal

pub returns-clause-builds : goal.returns-clause-builds
returns-clause-builds c = λ s h e. builds_given _ _ s c.build_given.result (c.build_given.ensures.gives s h e)
