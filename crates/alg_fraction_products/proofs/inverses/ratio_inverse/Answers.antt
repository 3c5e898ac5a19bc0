use Rattle.alg_numerals.proofs.LiteralLemmas.{own-stands}
use Rattle.alg_numerals.proofs.RelationLemmas.{grows-compares}
use Rattle.alg_fractions.proofs.SizeLemmas.{grows-quotients, above-differs}
use Rattle.alg_fraction_products.proofs.ProductLemmas.{own-first}
use Rattle.alg_fraction_products.proofs.inverses.ratio_inverse.Goals as goal

pub compared_literals-requires-clause-class : goal.compared_literals-requires-clause-class
compared_literals-requires-clause-class c = c.requires.quotients.char_zero

pub compared_literals-requires-clause-holds : goal.compared_literals-requires-clause-holds
compared_literals-requires-clause-holds c = above-differs _ c.requires.first_above

pub compared_literals-requires-2-clause-literals : goal.compared_literals-requires-2-clause-literals
compared_literals-requires-2-clause-literals c = (grows-quotients _ _ c.compared_literals.ensures.grows _ c.requires.quotients).signs.literals

pub compared_literals-requires-2-clause-class : goal.compared_literals-requires-2-clause-class
compared_literals-requires-2-clause-class c = (grows-quotients _ _ c.compared_literals.ensures.grows _ c.requires.quotients).char_zero

pub compared_literals-requires-2-clause-holds : goal.compared_literals-requires-2-clause-holds
compared_literals-requires-2-clause-holds c = above-differs _ c.requires.second_above

pub div_inv0-requires-clause-a_stands : goal.div_inv0-requires-clause-a_stands
div_inv0-requires-clause-a_stands c =
    let p = grows-compares _ _ c.compared_literals-2.ensures.grows _ _ _ _ _ c.in_ok-p.ensures.compares in
    let q = c.in_ok-q.ensures.compares in
    own-stands _ _ _ _ p.first

pub div_inv0-requires-clause-b_stands : goal.div_inv0-requires-clause-b_stands
div_inv0-requires-clause-b_stands c =
    let p = grows-compares _ _ c.compared_literals-2.ensures.grows _ _ _ _ _ c.in_ok-p.ensures.compares in
    let q = c.in_ok-q.ensures.compares in
    own-stands _ _ _ _ q.first

pub div_inv0-requires-clause-first_line : goal.div_inv0-requires-clause-first_line
div_inv0-requires-clause-first_line c =
    let p = grows-compares _ _ c.compared_literals-2.ensures.grows _ _ _ _ _ c.in_ok-p.ensures.compares in
    let q = c.in_ok-q.ensures.compares in
    own-first _ _ _ _ _ _ p

pub div_inv0-requires-clause-second_line : goal.div_inv0-requires-clause-second_line
div_inv0-requires-clause-second_line c =
    let p = grows-compares _ _ c.compared_literals-2.ensures.grows _ _ _ _ _ c.in_ok-p.ensures.compares in
    let q = c.in_ok-q.ensures.compares in
    own-first _ _ _ _ _ _ q

pub returns-clause-turns : goal.returns-clause-turns
returns-clause-turns c =
    let p = grows-compares _ _ c.compared_literals-2.ensures.grows _ _ _ _ _ c.in_ok-p.ensures.compares in
    let q = c.in_ok-q.ensures.compares in
    rw (← p.first.tree, ← q.first.tree) c.div_inv0.ensures.turns
