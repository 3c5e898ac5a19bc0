use Rattle.alg_check.proofs.Meaning.{builds_line}
use Rattle.alg_check.proofs.lines.build_line.Goals as goal

pub returns-clause-builds : goal.returns-clause-builds
returns-clause-builds c = λ l h e. builds_line _ _ l c.build_line.result (c.build_line.ensures.gives l h e)
