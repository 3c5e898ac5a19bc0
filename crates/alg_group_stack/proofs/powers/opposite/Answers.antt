use Rattle.alg_build.proofs.Lines.{grows-then}
use Rattle.alg_build.proofs.Rewritings.{grows-stands, grows-turns, is-rewriting, target}
use Rattle.alg_group_stack.proofs.Homes.{own-stands}
use Rattle.alg_group_stack.proofs.powers.opposite.Goals as goal

pub line_of-requires : goal.line_of-requires
line_of-requires c = is-rewriting _ _ _ _ _ c.in_ok-r.ensures.turns

pub syllable_inv-requires-clause-a_stands : goal.syllable_inv-requires-clause-a_stands
syllable_inv-requires-clause-a_stands c = own-stands _ _ _ _ (grows-stands _ _ (grows-then _ _ _ c.numeral_of_integer.ensures.grows (grows-then _ _ _ c.negation_of_integer.ensures.grows c.line_of.ensures.grows)) _ _ _ c.requires.base)

pub syllable_inv-requires-clause-i_stands : goal.syllable_inv-requires-clause-i_stands
syllable_inv-requires-clause-i_stands c = own-stands _ _ _ _ (grows-stands _ _ (grows-then _ _ _ c.negation_of_integer.ensures.grows c.line_of.ensures.grows) _ _ _ c.in_ok-i.ensures.stands)

pub syllable_inv-requires-clause-j_stands : goal.syllable_inv-requires-clause-j_stands
syllable_inv-requires-clause-j_stands c = own-stands _ _ _ _ (target _ _ _ _ _ (grows-turns _ _ c.line_of.ensures.grows _ _ _ _ c.in_ok-r.ensures.turns))

pub syllable_inv-requires-clause-first_line : goal.syllable_inv-requires-clause-first_line
syllable_inv-requires-clause-first_line c =
    let i = (grows-stands _ _ (grows-then _ _ _ c.negation_of_integer.ensures.grows c.line_of.ensures.grows) _ _ _ c.in_ok-i.ensures.stands).tree in
    let j = (target _ _ _ _ _ (grows-turns _ _ c.line_of.ensures.grows _ _ _ _ c.in_ok-r.ensures.turns)).tree in
    rw (i, j) (c.in_ok-line.ensures.proves _ _ _ c.in_ok-r.ensures.turns)

pub returns-clause-turns : goal.returns-clause-turns
returns-clause-turns c =
    let a = (grows-stands _ _ (grows-then _ _ _ c.numeral_of_integer.ensures.grows (grows-then _ _ _ c.negation_of_integer.ensures.grows c.line_of.ensures.grows)) _ _ _ c.requires.base).tree in
    let i = (grows-stands _ _ (grows-then _ _ _ c.negation_of_integer.ensures.grows c.line_of.ensures.grows) _ _ _ c.in_ok-i.ensures.stands).tree in
    let j = (target _ _ _ _ _ (grows-turns _ _ c.line_of.ensures.grows _ _ _ _ c.in_ok-r.ensures.turns)).tree in
    rw (a, i, j) at c.syllable_inv.ensures.turns
