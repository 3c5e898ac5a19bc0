use Rattle.alg_build.proofs.Lines.{grows-then}
use Rattle.alg_build.proofs.Rewritings.{begins, grows-stands, stands-over_one, target}
use Rattle.alg_group_stack.proofs.Homes.{grows-home, head-inverse, own-stands}
use Rattle.alg_group_spelling.proofs.normal.from_opposite.Goals as goal

pub under_one-requires : goal.under_one-requires
under_one-requires c = stands-over_one _ _ _ _ _ _ _ (c.keep-kept.ensures _ _ c.in_ok-first.ensures.stands) (head-inverse _ _ (grows-home _ _ _ c.power.ensures.grows c.requires.home))

pub opposite-requires-clause-base : goal.opposite-requires-clause-base
opposite-requires-clause-base c = own-stands _ _ _ _ (grows-stands _ _ (grows-then _ _ _ c.power.ensures.grows c.under_one.ensures.grows) _ _ _ c.requires.base)

pub back-requires : goal.back-requires
back-requires c =
    let a = (grows-stands _ _ (grows-then _ _ _ c.power.ensures.grows c.under_one.ensures.grows) _ _ _ c.requires.base).tree in
    begins _ _ _ _ _ _
    (grows-stands _ _ c.opposite.ensures.grows _ _ _ (target _ _ _ _ _ (c.in_ok-from.ensures.turns _ _ _ (c.keep-kept.ensures _ _ c.in_ok-first.ensures.stands) (head-inverse _ _ (grows-home _ _ _ c.power.ensures.grows c.requires.home)))))
    (rw a at c.in_ok-r.ensures.turns)

pub returns-clause-turns : goal.returns-clause-turns
returns-clause-turns c =
    let a = (grows-stands _ _ (grows-then _ _ _ c.power.ensures.grows c.under_one.ensures.grows) _ _ _ c.requires.base).tree in
    c.in_ok-up.ensures.turns _ _ _
    (grows-stands _ _ c.opposite.ensures.grows _ _ _ (target _ _ _ _ _ (c.in_ok-from.ensures.turns _ _ _ (c.keep-kept.ensures _ _ c.in_ok-first.ensures.stands) (head-inverse _ _ (grows-home _ _ _ c.power.ensures.grows c.requires.home)))))
    (rw a at c.in_ok-r.ensures.turns)
