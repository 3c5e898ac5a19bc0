use Rattle.alg_build.proofs.Lines.{grows-then}
use Rattle.alg_build.proofs.Rewritings.{grows-stands, grows-turns, is-rewriting, target}
use Rattle.alg_group_stack.proofs.Homes.{own-stands}
use Rattle.alg_group_stack.proofs.powers.multiplied_by.Goals as goal

pub line_of-requires : goal.line_of-requires
line_of-requires c = is-rewriting _ _ _ _ _ (grows-turns _ _ (grows-then _ _ _ c.numeral_of_integer.ensures.grows c.numeral_of_integer-2.ensures.grows) _ _ _ _ c.requires.power)

pub syllable_zpow-requires-clause-a_stands : goal.syllable_zpow-requires-clause-a_stands
syllable_zpow-requires-clause-a_stands c = own-stands _ _ _ _ (grows-stands _ _ (grows-then _ _ _ (grows-then _ _ _ c.numeral_of_integer.ensures.grows c.numeral_of_integer-2.ensures.grows) c.line_of.ensures.grows) _ _ _ c.requires.base)

pub syllable_zpow-requires-clause-b_stands : goal.syllable_zpow-requires-clause-b_stands
syllable_zpow-requires-clause-b_stands c = own-stands _ _ _ _ (target _ _ _ _ _ (grows-turns _ _ (grows-then _ _ _ (grows-then _ _ _ c.numeral_of_integer.ensures.grows c.numeral_of_integer-2.ensures.grows) c.line_of.ensures.grows) _ _ _ _ c.requires.power))

pub syllable_zpow-requires-clause-i_stands : goal.syllable_zpow-requires-clause-i_stands
syllable_zpow-requires-clause-i_stands c = own-stands _ _ _ _ (grows-stands _ _ (grows-then _ _ _ c.numeral_of_integer-2.ensures.grows c.line_of.ensures.grows) _ _ _ c.in_ok-i.ensures.stands)

pub syllable_zpow-requires-clause-j_stands : goal.syllable_zpow-requires-clause-j_stands
syllable_zpow-requires-clause-j_stands c = own-stands _ _ _ _ (grows-stands _ _ c.line_of.ensures.grows _ _ _ c.in_ok-j.ensures.stands)

pub syllable_zpow-requires-clause-first_line : goal.syllable_zpow-requires-clause-first_line
syllable_zpow-requires-clause-first_line c =
    let g = grows-then _ _ _ (grows-then _ _ _ c.numeral_of_integer.ensures.grows c.numeral_of_integer-2.ensures.grows) c.line_of.ensures.grows in
    let a = (grows-stands _ _ g _ _ _ c.requires.base).tree in
    let i = (grows-stands _ _ (grows-then _ _ _ c.numeral_of_integer-2.ensures.grows c.line_of.ensures.grows) _ _ _ c.in_ok-i.ensures.stands).tree in
    let j = (grows-stands _ _ c.line_of.ensures.grows _ _ _ c.in_ok-j.ensures.stands).tree in
    let q = (target _ _ _ _ _ (grows-turns _ _ g _ _ _ _ c.requires.power)).tree in
    rw (a, i, j, q) (c.in_ok-line.ensures.proves _ _ _ (grows-turns _ _ (grows-then _ _ _ c.numeral_of_integer.ensures.grows c.numeral_of_integer-2.ensures.grows) _ _ _ _ c.requires.power))

pub returns-clause-turns : goal.returns-clause-turns
returns-clause-turns c =
    let g = grows-then _ _ _ (grows-then _ _ _ c.numeral_of_integer.ensures.grows c.numeral_of_integer-2.ensures.grows) c.line_of.ensures.grows in
    let a = (grows-stands _ _ g _ _ _ c.requires.base).tree in
    let i = (grows-stands _ _ (grows-then _ _ _ c.numeral_of_integer-2.ensures.grows c.line_of.ensures.grows) _ _ _ c.in_ok-i.ensures.stands).tree in
    let j = (grows-stands _ _ c.line_of.ensures.grows _ _ _ c.in_ok-j.ensures.stands).tree in
    let q = (target _ _ _ _ _ (grows-turns _ _ g _ _ _ _ c.requires.power)).tree in
    rw (a, i, j, q) at c.syllable_zpow.ensures.turns
