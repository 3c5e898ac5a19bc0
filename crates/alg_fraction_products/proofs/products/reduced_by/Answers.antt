use Rattle.alg_num.proofs.IntegerLaws.{positive_product}
use Rattle.alg_build.proofs.Rewritings.{grows-stands, begins}
use Rattle.alg_numerals.proofs.LiteralLemmas.{grows-combines, own-stands, own-line}
use Rattle.alg_fractions.proofs.SizeLemmas.{grows-quotients, above-differs}
use Rattle.alg_fraction_products.proofs.ProductLemmas.{left-within, right-within}
use Rattle.alg_build.proofs.Lines.{grows-then}
use Rattle.alg_fraction_products.proofs.products.reduced_by.Goals as goal

pub eq_div_of_mul-requires-clause-field : goal.eq_div_of_mul-requires-clause-field
eq_div_of_mul-requires-clause-field c = (grows-quotients _ _ (grows-then _ _ _ c.size_product.ensures.grows c.compared_literals.ensures.grows) _ c.requires.quotients).field

pub eq_div_of_mul-requires-clause-library : goal.eq_div_of_mul-requires-clause-library
eq_div_of_mul-requires-clause-library c = (grows-quotients _ _ (grows-then _ _ _ c.size_product.ensures.grows c.compared_literals.ensures.grows) _ c.requires.quotients).signs.literals.library

pub returns-clause-grows : goal.returns-clause-grows
returns-clause-grows c = (grows-then _ _ _ c.size_product.ensures.grows (grows-then _ _ _ c.compared_literals.ensures.grows (grows-then _ _ _ c.eq_div_of_mul.ensures.grows c.back.ensures.grows)))

pub size_product-requires-clause-first_small : goal.size_product-requires-clause-first_small
size_product-requires-clause-first_small c = left-within c.args.n c.args.g _ c.requires.factor_above c.requires.small

pub size_product-requires-clause-second_small : goal.size_product-requires-clause-second_small
size_product-requires-clause-second_small c = left-within c.args.d c.args.g _ c.requires.factor_above c.requires.over

pub size_product-requires-clause-factor_small : goal.size_product-requires-clause-factor_small
size_product-requires-clause-factor_small c = right-within c.args.d c.args.g _ c.requires.above c.requires.over

pub compared_literals-requires-clause-literals : goal.compared_literals-requires-clause-literals
compared_literals-requires-clause-literals c = (grows-quotients _ _ c.size_product.ensures.grows _ c.requires.quotients).signs.literals

pub compared_literals-requires-clause-class : goal.compared_literals-requires-clause-class
compared_literals-requires-clause-class c = (grows-quotients _ _ c.size_product.ensures.grows _ c.requires.quotients).char_zero

pub compared_literals-requires-clause-holds : goal.compared_literals-requires-clause-holds
compared_literals-requires-clause-holds c = above-differs _ (positive_product c.args.d c.args.g c.requires.above c.requires.factor_above)

pub eq_div_of_mul-requires-clause-a_stands : goal.eq_div_of_mul-requires-clause-a_stands
eq_div_of_mul-requires-clause-a_stands c =
    let q = grows-combines _ _ c.compared_literals.ensures.grows _ _ _ _ _ _ c.in_ok-q.ensures.combines in
    own-stands _ _ _ _ q.first

pub eq_div_of_mul-requires-clause-b_stands : goal.eq_div_of_mul-requires-clause-b_stands
eq_div_of_mul-requires-clause-b_stands c =
    let q = grows-combines _ _ c.compared_literals.ensures.grows _ _ _ _ _ _ c.in_ok-q.ensures.combines in
    own-stands _ _ _ _ q.second

pub eq_div_of_mul-requires-clause-c_stands : goal.eq_div_of_mul-requires-clause-c_stands
eq_div_of_mul-requires-clause-c_stands c =
    let q = grows-combines _ _ c.compared_literals.ensures.grows _ _ _ _ _ _ c.in_ok-q.ensures.combines in
    own-stands _ _ _ _ q.total

pub eq_div_of_mul-requires-clause-first_line : goal.eq_div_of_mul-requires-clause-first_line
eq_div_of_mul-requires-clause-first_line c =
    let q = grows-combines _ _ c.compared_literals.ensures.grows _ _ _ _ _ _ c.in_ok-q.ensures.combines in
    own-line _ _ _ _ _ _ _ q

pub eq_div_of_mul-requires-clause-second_line : goal.eq_div_of_mul-requires-clause-second_line
eq_div_of_mul-requires-clause-second_line c =
    let q = grows-combines _ _ c.compared_literals.ensures.grows _ _ _ _ _ _ c.in_ok-q.ensures.combines in
    rw q.second.tree c.in_ok-some.ensures.compares.line

pub back-requires : goal.back-requires
back-requires c =
    let q = grows-combines _ _ c.compared_literals.ensures.grows _ _ _ _ _ _ c.in_ok-q.ensures.combines in
    let w = grows-stands _ _ c.eq_div_of_mul.ensures.grows _ _ _ q.first in
    let t = rw (q.first.tree, q.total.tree, q.second.tree) at c.in_ok-r.ensures.turns in
    begins _ _ _ _ _ _ w t

pub returns-clause-turns : goal.returns-clause-turns
returns-clause-turns c =
    let q = grows-combines _ _ c.compared_literals.ensures.grows _ _ _ _ _ _ c.in_ok-q.ensures.combines in
    let w = grows-stands _ _ c.eq_div_of_mul.ensures.grows _ _ _ q.first in
    let t = rw (q.first.tree, q.total.tree, q.second.tree) at c.in_ok-r.ensures.turns in
    c.in_ok-s.ensures.turns _ _ _ w t
