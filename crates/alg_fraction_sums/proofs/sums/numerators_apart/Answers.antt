use Rattle.alg_build.proofs.Lines.{grows-then}
use Rattle.alg_build.proofs.Rewritings.{grows-turns, turns-in}
use Rattle.alg_fraction_sums.proofs.sums.numerators_apart.Goals as goal

pub plus-requires-clause-left : goal.plus-requires-clause-left
plus-requires-clause-left c = turns-in _ _ _ _ _ (grows-turns _ _ c.signed_times-2.ensures.grows _ _ _ _ c.in_ok-left.ensures.turns)

pub returns-clause-turns : goal.returns-clause-turns
returns-clause-turns c =
    rw (← c.requires.common.left, ← c.requires.common.right)
    (c.in_ok-both.ensures.turns _ _ _ _ (grows-turns _ _ c.signed_times-2.ensures.grows _ _ _ _ c.in_ok-left.ensures.turns) c.in_ok-right.ensures.turns)

pub returns-in_err-both-clause-grows : goal.returns-in_err-both-clause-grows
returns-in_err-both-clause-grows c = grows-then _ _ _ c.signed_times.ensures.grows (grows-then _ _ _ c.signed_times-2.ensures.grows c.plus.ensures.grows)

pub returns-clause-grows : goal.returns-clause-grows
returns-clause-grows c = grows-then _ _ _ c.signed_times.ensures.grows (grows-then _ _ _ c.signed_times-2.ensures.grows c.plus.ensures.grows)
