use Rattle.alg_build.proofs.Lines.{grows-then}
use Rattle.alg_build.proofs.Rewritings.{grows-stands}
use Rattle.alg_numerals.proofs.LiteralLemmas.{own-stands}
use Rattle.alg_fractions.proofs.SizeLemmas.{grows-quotients}
use Rattle.alg_fraction_products.proofs.products.moved_over.Goals as goal

pub literal-requires-2-clause-literals : goal.literal-requires-2-clause-literals
literal-requires-2-clause-literals c = (grows-quotients _ _ c.literal.ensures.grows _ c.requires.quotients).signs.literals

pub literal-requires-3-clause-literals : goal.literal-requires-3-clause-literals
literal-requires-3-clause-literals c = (grows-quotients _ _ (grows-then _ _ _ c.literal.ensures.grows c.literal-2.ensures.grows) _ c.requires.quotients).signs.literals

pub mul_div_comm-requires-clause-d_stands : goal.mul_div_comm-requires-clause-d_stands
mul_div_comm-requires-clause-d_stands c = own-stands _ _ _ _ c.in_ok-over.ensures.stands

pub mul_div_comm-requires-clause-field : goal.mul_div_comm-requires-clause-field
mul_div_comm-requires-clause-field c = (grows-quotients _ _ (grows-then _ _ _ c.literal.ensures.grows (grows-then _ _ _ c.literal-2.ensures.grows c.literal-3.ensures.grows)) _ c.requires.quotients).field

pub mul_div_comm-requires-clause-library : goal.mul_div_comm-requires-clause-library
mul_div_comm-requires-clause-library c = (grows-quotients _ _ (grows-then _ _ _ c.literal.ensures.grows (grows-then _ _ _ c.literal-2.ensures.grows c.literal-3.ensures.grows)) _ c.requires.quotients).signs.literals.library

pub returns-clause-grows : goal.returns-clause-grows
returns-clause-grows c = (grows-then _ _ _ c.literal.ensures.grows (grows-then _ _ _ c.literal-2.ensures.grows (grows-then _ _ _ c.literal-3.ensures.grows c.mul_div_comm.ensures.grows)))

pub mul_div_comm-requires-clause-a_stands : goal.mul_div_comm-requires-clause-a_stands
mul_div_comm-requires-clause-a_stands c =
    let g = c.literal-3.ensures.grows in
    let a = grows-stands _ _ (grows-then _ _ _ c.literal-2.ensures.grows g) _ _ _ c.in_ok-first.ensures.stands in
    let b = grows-stands _ _ g _ _ _ c.in_ok-second.ensures.stands in
    own-stands _ _ _ _ a

pub mul_div_comm-requires-clause-c_stands : goal.mul_div_comm-requires-clause-c_stands
mul_div_comm-requires-clause-c_stands c =
    let g = c.literal-3.ensures.grows in
    let a = grows-stands _ _ (grows-then _ _ _ c.literal-2.ensures.grows g) _ _ _ c.in_ok-first.ensures.stands in
    let b = grows-stands _ _ g _ _ _ c.in_ok-second.ensures.stands in
    own-stands _ _ _ _ b

pub returns-clause-turns : goal.returns-clause-turns
returns-clause-turns c =
    let g = c.literal-3.ensures.grows in
    let a = grows-stands _ _ (grows-then _ _ _ c.literal-2.ensures.grows g) _ _ _ c.in_ok-first.ensures.stands in
    let b = grows-stands _ _ g _ _ _ c.in_ok-second.ensures.stands in
    rw (← a.tree, ← b.tree, ← c.in_ok-over.ensures.stands.tree) c.mul_div_comm.ensures.turns
