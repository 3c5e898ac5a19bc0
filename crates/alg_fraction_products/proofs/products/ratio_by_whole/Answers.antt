use Rattle.alg_numerals.proofs.LiteralLemmas.{grows-combines, own-line, own-stands}
use Rattle.alg_build.proofs.Lines.{grows-then}
use Rattle.alg_fractions.proofs.SizeLemmas.{grows-quotients}
use Rattle.alg_fraction_products.proofs.products.ratio_by_whole.Goals as goal

pub literal-requires-clause-literals : goal.literal-requires-clause-literals
literal-requires-clause-literals c = (grows-quotients _ _ c.product.ensures.grows _ c.requires.quotients).signs.literals

pub mul_div_left-requires-clause-a_stands : goal.mul_div_left-requires-clause-a_stands
mul_div_left-requires-clause-a_stands c = own-stands _ _ _ _ (grows-combines _ _ c.literal.ensures.grows _ _ _ _ _ _ c.in_ok-q.ensures.combines).first

pub mul_div_left-requires-clause-b_stands : goal.mul_div_left-requires-clause-b_stands
mul_div_left-requires-clause-b_stands c = own-stands _ _ _ _ (grows-combines _ _ c.literal.ensures.grows _ _ _ _ _ _ c.in_ok-q.ensures.combines).total

pub mul_div_left-requires-clause-c_stands : goal.mul_div_left-requires-clause-c_stands
mul_div_left-requires-clause-c_stands c = own-stands _ _ _ _ (grows-combines _ _ c.literal.ensures.grows _ _ _ _ _ _ c.in_ok-q.ensures.combines).second

pub mul_div_left-requires-clause-d_stands : goal.mul_div_left-requires-clause-d_stands
mul_div_left-requires-clause-d_stands c = own-stands _ _ _ _ c.in_ok-over.ensures.stands

pub mul_div_left-requires-clause-field : goal.mul_div_left-requires-clause-field
mul_div_left-requires-clause-field c = (grows-quotients _ _ (grows-then _ _ _ c.product.ensures.grows c.literal.ensures.grows) _ c.requires.quotients).field

pub mul_div_left-requires-clause-library : goal.mul_div_left-requires-clause-library
mul_div_left-requires-clause-library c = (grows-quotients _ _ (grows-then _ _ _ c.product.ensures.grows c.literal.ensures.grows) _ c.requires.quotients).signs.literals.library

pub returns-clause-grows : goal.returns-clause-grows
returns-clause-grows c = grows-then _ _ _ c.product.ensures.grows (grows-then _ _ _ c.literal.ensures.grows c.mul_div_left.ensures.grows)

pub mul_div_left-requires-clause-first_line : goal.mul_div_left-requires-clause-first_line
mul_div_left-requires-clause-first_line c =
    let q = grows-combines _ _ c.literal.ensures.grows _ _ _ _ _ _ c.in_ok-q.ensures.combines in
    own-line _ _ _ _ _ _ _ q

pub returns-clause-turns : goal.returns-clause-turns
returns-clause-turns c =
    let q = grows-combines _ _ c.literal.ensures.grows _ _ _ _ _ _ c.in_ok-q.ensures.combines in
    rw (← q.first.tree, ← q.total.tree, ← q.second.tree, ← c.in_ok-over.ensures.stands.tree) c.mul_div_left.ensures.turns
