use Rattle.alg_build.proofs.Lines.{grows-then}
use Rattle.alg_build.proofs.Rewritings.{grows-turns, turns-in, follows}
use Rattle.alg_sorted_sums.proofs.joining.both_next.Goals as goal

pub plus-requires-clause-left : goal.plus-requires-clause-left
plus-requires-clause-left c = turns-in _ _ _ _ _ (grows-turns _ _ c.add_add_add_comm.ensures.grows _ _ _ _ c.requires.before)

pub plus-requires-clause-right : goal.plus-requires-clause-right
plus-requires-clause-right c = turns-in _ _ _ _ _ (grows-turns _ _ c.add_add_add_comm.ensures.grows _ _ _ _ c.requires.sum)

pub then-requires : goal.then-requires
then-requires c =
    let g = c.add_add_add_comm.ensures.grows in
    follows _ _ _ _ _ _ _ (grows-turns _ _ c.plus.ensures.grows _ _ _ _ c.in_ok-across.ensures.turns) (c.in_ok-inner.ensures.turns _ _ _ _ (grows-turns _ _ g _ _ _ _ c.requires.before) (grows-turns _ _ g _ _ _ _ c.requires.sum))

pub returns-clause-turns : goal.returns-clause-turns
returns-clause-turns c =
    let g = c.add_add_add_comm.ensures.grows in
    c.in_ok-q.ensures.turns _ _ _ _ (grows-turns _ _ c.plus.ensures.grows _ _ _ _ c.in_ok-across.ensures.turns) (c.in_ok-inner.ensures.turns _ _ _ _ (grows-turns _ _ g _ _ _ _ c.requires.before) (grows-turns _ _ g _ _ _ _ c.requires.sum))

pub returns-clause-grows : goal.returns-clause-grows
returns-clause-grows c = grows-then _ _ _ c.add_add_add_comm.ensures.grows (grows-then _ _ _ c.plus.ensures.grows c.then.ensures.grows)
