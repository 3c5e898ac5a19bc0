use Rattle.alg_build.proofs.Rewritings.{grows-stands, target, turns-in}
use Rattle.alg_group_stack.proofs.Homes.{own-stands}
use Rattle.alg_group_stack.proofs.powers.power.Goals as goal

pub raised-requires-clause-base : goal.raised-requires-clause-base
raised-requires-clause-base c = own-stands _ _ _ _ (grows-stands _ _ c.numeral_of_integer.ensures.grows _ _ _ c.requires.base)

pub raised-requires-clause-exponent : goal.raised-requires-clause-exponent
raised-requires-clause-exponent c = turns-in _ _ _ _ _ (c.keep-by.ensures _ _ c.in_ok-k.ensures.stands)

pub returns-clause-stands : goal.returns-clause-stands
returns-clause-stands c =
    let a = (grows-stands _ _ c.numeral_of_integer.ensures.grows _ _ _ c.requires.base).tree in
    let t = target _ _ _ _ _ (c.in_ok-q.ensures.turns _ _ (c.keep-by.ensures _ _ c.in_ok-k.ensures.stands)) in
    rw a at t
