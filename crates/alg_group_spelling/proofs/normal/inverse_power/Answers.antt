use Rattle.alg_build.proofs.Rewritings.{follows, grows-stands, grows-turns}
use Rattle.alg_group_stack.proofs.Homes.{own-stands}
use Rattle.alg_group_spelling.proofs.NormalLemmas.{first-inverse}
use Rattle.alg_group_spelling.proofs.normal.inverse_power.Goals as goal

pub inverse_of_first-requires-clause-base : goal.inverse_of_first-requires-clause-base
inverse_of_first-requires-clause-base c = own-stands _ _ _ _ (grows-stands _ _ c.from_opposite.ensures.grows _ _ _ c.requires.base)

pub then-requires : goal.then-requires
then-requires c =
    let a = (grows-stands _ _ c.from_opposite.ensures.grows _ _ _ c.requires.base).tree in
    follows _ _ _ _ _ _ _ (grows-turns _ _ c.inverse_of_first.ensures.grows _ _ _ _ c.in_ok-up.ensures.turns) (first-inverse _ _ _ _ (rw a at c.in_ok-q.ensures.turns))

pub returns-clause-turns : goal.returns-clause-turns
returns-clause-turns c =
    let a = (grows-stands _ _ c.from_opposite.ensures.grows _ _ _ c.requires.base).tree in
    c.in_ok-p.ensures.turns _ _ _ _ (grows-turns _ _ c.inverse_of_first.ensures.grows _ _ _ _ c.in_ok-up.ensures.turns) (first-inverse _ _ _ _ (rw a at c.in_ok-q.ensures.turns))
