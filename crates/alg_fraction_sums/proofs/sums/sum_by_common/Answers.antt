use Rattle.alg_build.proofs.Rewritings.{grows-turns}
use Rattle.alg_fraction_sums.proofs.sums.sum_by_common.Goals as goal

pub sum_by-requires-clause-left_turns : goal.sum_by-requires-clause-left_turns
sum_by-requires-clause-left_turns c = grows-turns _ _ c.total_times.ensures.grows _ _ _ _ c.in_ok-left.ensures.turns
