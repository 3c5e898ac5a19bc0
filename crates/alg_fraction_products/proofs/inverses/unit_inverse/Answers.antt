use Rattle.alg_numerals.proofs.LiteralLemmas.{own-stands}
use Rattle.alg_fractions.proofs.SizeLemmas.{above-differs}
use Rattle.alg_fraction_products.proofs.ProductLemmas.{own-first}
use Rattle.alg_fraction_products.proofs.inverses.unit_inverse.Goals as goal

pub compared_literals-requires-clause-class : goal.compared_literals-requires-clause-class
compared_literals-requires-clause-class c = c.requires.quotients.char_zero

pub compared_literals-requires-clause-holds : goal.compared_literals-requires-clause-holds
compared_literals-requires-clause-holds c = above-differs _ c.requires.above

pub one_div_inv0-requires-clause-a_stands : goal.one_div_inv0-requires-clause-a_stands
one_div_inv0-requires-clause-a_stands c = own-stands _ _ _ _ c.in_ok-q.ensures.compares.first

pub one_div_inv0-requires-clause-first_line : goal.one_div_inv0-requires-clause-first_line
one_div_inv0-requires-clause-first_line c = own-first _ _ _ _ _ _ c.in_ok-q.ensures.compares

pub returns-clause-turns : goal.returns-clause-turns
returns-clause-turns c = rw (← c.in_ok-q.ensures.compares.first.tree) c.one_div_inv0.ensures.turns
