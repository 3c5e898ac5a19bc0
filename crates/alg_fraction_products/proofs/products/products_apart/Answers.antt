use Rattle.alg_build.proofs.Lines.{grows-then}
use Rattle.alg_numerals.proofs.LiteralLemmas.{own-stands}
use Rattle.alg_numerals.proofs.RelationLemmas.{grows-compares}
use Rattle.alg_fractions.proofs.SizeLemmas.{grows-quotients, above-differs}
use Rattle.alg_fraction_products.proofs.ProductLemmas.{own-first}
use Rattle.alg_fraction_products.proofs.products.products_apart.Goals as goal

pub compared_literals-requires-clause-holds : goal.compared_literals-requires-clause-holds
compared_literals-requires-clause-holds c = above-differs _ c.requires.first_above

pub compared_literals-requires-2-clause-holds : goal.compared_literals-requires-2-clause-holds
compared_literals-requires-2-clause-holds c = above-differs _ c.requires.second_above

pub two_literals-requires-clause-literals : goal.two_literals-requires-clause-literals
two_literals-requires-clause-literals c = (grows-quotients _ _ (grows-then _ _ _ c.compared_literals.ensures.grows c.compared_literals-2.ensures.grows) _ c.requires.quotients).signs.literals

pub div_mul_div-requires-clause-a_stands : goal.div_mul_div-requires-clause-a_stands
div_mul_div-requires-clause-a_stands c = own-stands _ _ _ _ c.in_ok-a.ensures.first

pub div_mul_div-requires-clause-c_stands : goal.div_mul_div-requires-clause-c_stands
div_mul_div-requires-clause-c_stands c = own-stands _ _ _ _ c.in_ok-a.ensures.second

pub div_mul_div-requires-clause-field : goal.div_mul_div-requires-clause-field
div_mul_div-requires-clause-field c = (grows-quotients _ _ (grows-then _ _ _ c.compared_literals.ensures.grows (grows-then _ _ _ c.compared_literals-2.ensures.grows c.two_literals.ensures.grows)) _ c.requires.quotients).field

pub div_mul_div-requires-clause-library : goal.div_mul_div-requires-clause-library
div_mul_div-requires-clause-library c = (grows-quotients _ _ (grows-then _ _ _ c.compared_literals.ensures.grows (grows-then _ _ _ c.compared_literals-2.ensures.grows c.two_literals.ensures.grows)) _ c.requires.quotients).signs.literals.library

pub returns-clause-grows : goal.returns-clause-grows
returns-clause-grows c = (grows-then _ _ _ c.compared_literals.ensures.grows (grows-then _ _ _ c.compared_literals-2.ensures.grows (grows-then _ _ _ c.two_literals.ensures.grows c.div_mul_div.ensures.grows)))

pub compared_literals-requires-2-clause-literals : goal.compared_literals-requires-2-clause-literals
compared_literals-requires-2-clause-literals c = (grows-quotients _ _ c.compared_literals.ensures.grows _ c.requires.quotients).signs.literals

pub compared_literals-requires-2-clause-class : goal.compared_literals-requires-2-clause-class
compared_literals-requires-2-clause-class c = (grows-quotients _ _ c.compared_literals.ensures.grows _ c.requires.quotients).char_zero

pub div_mul_div-requires-clause-first_line : goal.div_mul_div-requires-clause-first_line
div_mul_div-requires-clause-first_line c =
    let g = c.two_literals.ensures.grows in
    let p = grows-compares _ _ (grows-then _ _ _ c.compared_literals-2.ensures.grows g) _ _ _ _ _ c.in_ok-first.ensures.compares in
    let q = grows-compares _ _ g _ _ _ _ _ c.in_ok-second.ensures.compares in
    own-first _ _ _ _ _ _ p

pub div_mul_div-requires-clause-second_line : goal.div_mul_div-requires-clause-second_line
div_mul_div-requires-clause-second_line c =
    let g = c.two_literals.ensures.grows in
    let p = grows-compares _ _ (grows-then _ _ _ c.compared_literals-2.ensures.grows g) _ _ _ _ _ c.in_ok-first.ensures.compares in
    let q = grows-compares _ _ g _ _ _ _ _ c.in_ok-second.ensures.compares in
    own-first _ _ _ _ _ _ q

pub div_mul_div-requires-clause-b_stands : goal.div_mul_div-requires-clause-b_stands
div_mul_div-requires-clause-b_stands c =
    let g = c.two_literals.ensures.grows in
    let p = grows-compares _ _ (grows-then _ _ _ c.compared_literals-2.ensures.grows g) _ _ _ _ _ c.in_ok-first.ensures.compares in
    let q = grows-compares _ _ g _ _ _ _ _ c.in_ok-second.ensures.compares in
    own-stands _ _ _ _ p.first

pub div_mul_div-requires-clause-d_stands : goal.div_mul_div-requires-clause-d_stands
div_mul_div-requires-clause-d_stands c =
    let g = c.two_literals.ensures.grows in
    let p = grows-compares _ _ (grows-then _ _ _ c.compared_literals-2.ensures.grows g) _ _ _ _ _ c.in_ok-first.ensures.compares in
    let q = grows-compares _ _ g _ _ _ _ _ c.in_ok-second.ensures.compares in
    own-stands _ _ _ _ q.first

pub returns-clause-turns : goal.returns-clause-turns
returns-clause-turns c =
    let g = c.two_literals.ensures.grows in
    let p = grows-compares _ _ (grows-then _ _ _ c.compared_literals-2.ensures.grows g) _ _ _ _ _ c.in_ok-first.ensures.compares in
    let q = grows-compares _ _ g _ _ _ _ _ c.in_ok-second.ensures.compares in
    rw (← c.in_ok-a.ensures.first.tree, ← p.first.tree, ← c.in_ok-a.ensures.second.tree, ← q.first.tree) c.div_mul_div.ensures.turns
