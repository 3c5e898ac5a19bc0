use Rattle.alg_build.proofs.Rewritings.{grows-stands, grows-turns, follows}
use Rattle.alg_group_stack.proofs.Homes.{own-stands}
use Rattle.alg_group_stack.proofs.powers.zero_power.Goals as goal

pub pow_zero-requires-clause-a_stands : goal.pow_zero-requires-clause-a_stands
pow_zero-requires-clause-a_stands c = own-stands _ _ _ _ (grows-stands _ _ c.natural_power.ensures.grows _ _ _ c.requires.base)

pub then-requires : goal.then-requires
then-requires c =
    let a = (grows-stands _ _ c.natural_power.ensures.grows _ _ _ c.requires.base).tree in
    let q = rw a at c.in_ok-q.ensures.turns in
    follows _ _ _ _ _ _ _ (grows-turns _ _ c.pow_zero.ensures.grows _ _ _ _ c.in_ok-r.ensures.turns) q

pub returns-clause-turns : goal.returns-clause-turns
returns-clause-turns c =
    let a = (grows-stands _ _ c.natural_power.ensures.grows _ _ _ c.requires.base).tree in
    let q = rw a at c.in_ok-q.ensures.turns in
    c.in_ok-p.ensures.turns _ _ _ _ (grows-turns _ _ c.pow_zero.ensures.grows _ _ _ _ c.in_ok-r.ensures.turns) q
