use Rattle.alg_build.proofs.Leading.{concludes-grows}
use Rattle.alg_build.proofs.Lines.{grows-then}
use Rattle.alg_build.proofs.Rewritings.{grows-turns}
use Rattle.alg_fraction_sums.proofs.relations.relation_scaled_twice.Goals as goal

pub related_by-requires-clause-left_turns : goal.related_by-requires-clause-left_turns
related_by-requires-clause-left_turns c = rw (← c.den.ensures.number) (grows-turns _ _ c.scaled_by_other.ensures.grows _ _ _ _ c.in_ok-left.ensures.turns)

pub related_by-requires-clause-relation : goal.related_by-requires-clause-relation
related_by-requires-clause-relation c = concludes-grows _ _ _ _ (grows-then _ _ _ c.scaled_by_own.ensures.grows c.scaled_by_other.ensures.grows) c.in_ok-line.ensures.concludes

pub returns-clause-grows : goal.returns-clause-grows
returns-clause-grows c =
    grows-then _ _ _ c.relation_of_crossed.ensures.grows
    (grows-then _ _ _ c.scaled_by_own.ensures.grows (grows-then _ _ _ c.scaled_by_other.ensures.grows c.related_by.ensures.grows))
