use Rattle.alg_build.proofs.Rewritings.{grows-turns}
use Rattle.alg_sorted_sums.proofs.joining.both_gone.Goals as goal

pub returns-clause-turns : goal.returns-clause-turns
returns-clause-turns c = c.in_ok-q.ensures.turns _ _ _ _ c.in_ok-dropped.ensures.turns (grows-turns _ _ c.sum_drop.ensures.grows _ _ _ _ c.requires.before)
