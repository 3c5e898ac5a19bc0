use Rattle.alg_build.proofs.Rewritings.{grows-stands}
use Rattle.alg_numerals.proofs.LiteralLemmas.{own-stands}
use Rattle.alg_fraction_products.proofs.products.swapped_over.Goals as goal

pub div_mul_swap-requires-clause-a_stands : goal.div_mul_swap-requires-clause-a_stands
div_mul_swap-requires-clause-a_stands c =
    let p = grows-stands _ _ c.two_literals-2.ensures.grows _ _ _ c.in_ok-first.ensures.first in
    let q = grows-stands _ _ c.two_literals-2.ensures.grows _ _ _ c.in_ok-first.ensures.second in
    own-stands _ _ _ _ p

pub div_mul_swap-requires-clause-b_stands : goal.div_mul_swap-requires-clause-b_stands
div_mul_swap-requires-clause-b_stands c =
    let p = grows-stands _ _ c.two_literals-2.ensures.grows _ _ _ c.in_ok-first.ensures.first in
    let q = grows-stands _ _ c.two_literals-2.ensures.grows _ _ _ c.in_ok-first.ensures.second in
    own-stands _ _ _ _ q

pub returns-clause-turns : goal.returns-clause-turns
returns-clause-turns c =
    let p = grows-stands _ _ c.two_literals-2.ensures.grows _ _ _ c.in_ok-first.ensures.first in
    let q = grows-stands _ _ c.two_literals-2.ensures.grows _ _ _ c.in_ok-first.ensures.second in
    rw (← p.tree, ← q.tree, ← c.in_ok-second.ensures.first.tree, ← c.in_ok-second.ensures.second.tree) c.div_mul_swap.ensures.turns
