use Rattle.alg_build.proofs.Lines.{grows-then}
use Rattle.alg_build.proofs.Rewritings.{grows-stands, target, turns-in}
use Rattle.alg_group_stack.proofs.Homes.{own-stands, own-turns}
use Rattle.alg_group_stack.proofs.powers.merged.Goals as goal

pub raised-requires-clause-base : goal.raised-requires-clause-base
raised-requires-clause-base c = own-stands _ _ _ _ (grows-stands _ _ c.sum_of_integers.ensures.grows _ _ _ c.requires.base)

pub raised-requires-clause-exponent : goal.raised-requires-clause-exponent
raised-requires-clause-exponent c = turns-in _ _ _ _ _ c.in_ok-r.ensures.turns

pub merged_by-requires-clause-base : goal.merged_by-requires-clause-base
merged_by-requires-clause-base c = own-stands _ _ _ _ (grows-stands _ _ (grows-then _ _ _ c.sum_of_integers.ensures.grows c.raised.ensures.grows) _ _ _ c.requires.base)

pub merged_by-requires-clause-power : goal.merged_by-requires-clause-power
merged_by-requires-clause-power c =
    let a = (grows-stands _ _ c.raised.ensures.grows _ _ _ (own-stands _ _ _ _ (grows-stands _ _ c.sum_of_integers.ensures.grows _ _ _ c.requires.base))).tree in
    rw a (own-turns _ _ _ _ _ (c.in_ok-q.ensures.turns _ _ c.in_ok-r.ensures.turns))

pub returns-clause-turns : goal.returns-clause-turns
returns-clause-turns c =
    let q = (target _ _ _ _ _ (c.in_ok-q.ensures.turns _ _ c.in_ok-r.ensures.turns)).tree in
    let a = (grows-stands _ _ c.sum_of_integers.ensures.grows _ _ _ c.requires.base).tree in
    let b = (grows-stands _ _ (grows-then _ _ _ c.sum_of_integers.ensures.grows c.raised.ensures.grows) _ _ _ c.requires.base).tree in
    rw (q, a, b) at c.merged_by.ensures.turns
