use Rattle.alg_numerals.proofs.LiteralLemmas.{own-stands}
use Rattle.alg_numerals.proofs.RelationLemmas.{grows-compares}
use Rattle.alg_fractions.proofs.SizeLemmas.{grows-quotients, above-differs}
use Rattle.alg_fraction_products.proofs.ProductLemmas.{own-first}
use Rattle.alg_fraction_products.proofs.inverses.ratio_differs.Goals as goal

pub compared_literals-requires-clause-class : goal.compared_literals-requires-clause-class
compared_literals-requires-clause-class c = c.requires.quotients.char_zero

pub compared_literals-requires-clause-holds : goal.compared_literals-requires-clause-holds
compared_literals-requires-clause-holds c = above-differs _ c.requires.first_above

pub compared_literals-requires-2-clause-literals : goal.compared_literals-requires-2-clause-literals
compared_literals-requires-2-clause-literals c = (grows-quotients _ _ c.compared_literals.ensures.grows _ c.requires.quotients).signs.literals

pub compared_literals-requires-2-clause-class : goal.compared_literals-requires-2-clause-class
compared_literals-requires-2-clause-class c = (grows-quotients _ _ c.compared_literals.ensures.grows _ c.requires.quotients).char_zero

pub compared_literals-requires-2-clause-holds : goal.compared_literals-requires-2-clause-holds
compared_literals-requires-2-clause-holds c = above-differs _ c.requires.second_above

pub div_ne_zero-requires-clause-a_stands : goal.div_ne_zero-requires-clause-a_stands
div_ne_zero-requires-clause-a_stands c =
    let p = grows-compares _ _ c.compared_literals-2.ensures.grows _ _ _ _ _ c.in_ok-p.ensures.compares in
    let q = c.in_ok-q.ensures.compares in
    own-stands _ _ _ _ p.first

pub div_ne_zero-requires-clause-b_stands : goal.div_ne_zero-requires-clause-b_stands
div_ne_zero-requires-clause-b_stands c =
    let p = grows-compares _ _ c.compared_literals-2.ensures.grows _ _ _ _ _ c.in_ok-p.ensures.compares in
    let q = c.in_ok-q.ensures.compares in
    own-stands _ _ _ _ q.first

pub div_ne_zero-requires-clause-first_line : goal.div_ne_zero-requires-clause-first_line
div_ne_zero-requires-clause-first_line c =
    let p = grows-compares _ _ c.compared_literals-2.ensures.grows _ _ _ _ _ c.in_ok-p.ensures.compares in
    let q = c.in_ok-q.ensures.compares in
    own-first _ _ _ _ _ _ p

pub div_ne_zero-requires-clause-second_line : goal.div_ne_zero-requires-clause-second_line
div_ne_zero-requires-clause-second_line c =
    let p = grows-compares _ _ c.compared_literals-2.ensures.grows _ _ _ _ _ c.in_ok-p.ensures.compares in
    let q = c.in_ok-q.ensures.compares in
    own-first _ _ _ _ _ _ q

pub returns-clause-concludes : goal.returns-clause-concludes
returns-clause-concludes c =
    let p = grows-compares _ _ c.compared_literals-2.ensures.grows _ _ _ _ _ c.in_ok-p.ensures.compares in
    let q = c.in_ok-q.ensures.compares in
    rw (← p.first.tree, ← q.first.tree) c.div_ne_zero.ensures.concludes
