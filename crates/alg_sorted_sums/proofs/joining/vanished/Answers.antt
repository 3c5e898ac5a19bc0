use Rattle.std.proofs.Common.{refl}
use Rattle.alg_sorted_sums.proofs.Growing.{as_turns}
use Rattle.alg_sorted_sums.proofs.joining.vanished.Goals as goal

pub both_gone-requires-clause-before : goal.both_gone-requires-clause-before
both_gone-requires-clause-before c = as_turns _ _ _ _ _ _ c.requires.e_in refl c.requires.before

pub returns-clause-line : goal.returns-clause-line
returns-clause-line c = c.in_ok-n.ensures.proves _ _ _ c.in_ok-q.ensures.turns
