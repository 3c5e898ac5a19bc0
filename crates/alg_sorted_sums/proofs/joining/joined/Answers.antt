use Rattle.std.proofs.Common.{refl}
use Rattle.alg_build.proofs.Lines.{grows-then}
use Rattle.alg_build.proofs.Rewritings.{grows-stands, target}
use Rattle.alg_sorted_sums.proofs.Growing.{as_turns}
use Rattle.alg_sorted_sums.proofs.joining.joined.Goals as goal

pub both_next-requires-clause-before : goal.both_next-requires-clause-before
both_next-requires-clause-before c = as_turns _ _ _ _ _ _ c.requires.e_in refl c.requires.before

pub returns-clause-sum : goal.returns-clause-sum
returns-clause-sum c = grows-stands _ _ c.line_of.ensures.grows _ _ _ (target _ _ _ _ _ c.in_ok-q.ensures.turns)

pub returns-clause-line : goal.returns-clause-line
returns-clause-line c = c.in_ok-line.ensures.proves _ _ _ c.in_ok-q.ensures.turns
