use Rattle.alg_build.proofs.Rewritings.{grows-turns}
use Rattle.alg_node_sums.proofs.Deriving.{as_derived}
use Rattle.alg_node_sums.proofs.lines.with_line.Goals as goal

pub returns-clause-derives : goal.returns-clause-derives
returns-clause-derives c = λ s t u h. as_derived _ _ _ _ _ _ (grows-turns _ _ c.line_of.ensures.grows _ _ _ _ h) (c.in_ok-line.ensures.proves _ _ _ h)
