use Rattle.alg_build.proofs.Lines.{grows-proves, grows-then}
use Rattle.alg_build.proofs.Rewritings.{grows-stands, grows-turns, is-rewriting, target}
use Rattle.alg_group_stack.proofs.Homes.{own-stands}
use Rattle.alg_group_spelling.proofs.raising.raise_one.Goals as goal

pub line_of-requires : goal.line_of-requires
line_of-requires c = is-rewriting _ _ _ _ _ c.in_ok-r.ensures.turns

pub one_mul_zpow-requires-clause-a_stands : goal.one_mul_zpow-requires-clause-a_stands
one_mul_zpow-requires-clause-a_stands c = own-stands _ _ _ _ (grows-stands _ _ (grows-then _ _ _ c.multiplied.ensures.grows (grows-then _ _ _ c.line_of.ensures.grows c.numeral_of_integer.ensures.grows)) _ _ _ c.requires.power.power)

pub one_mul_zpow-requires-clause-b_stands : goal.one_mul_zpow-requires-clause-b_stands
one_mul_zpow-requires-clause-b_stands c = own-stands _ _ _ _ (target _ _ _ _ _ (grows-turns _ _ (grows-then _ _ _ c.line_of.ensures.grows c.numeral_of_integer.ensures.grows) _ _ _ _ c.in_ok-r.ensures.turns))

pub one_mul_zpow-requires-clause-i_stands : goal.one_mul_zpow-requires-clause-i_stands
one_mul_zpow-requires-clause-i_stands c = own-stands _ _ _ _ c.in_ok-k.ensures.stands

pub one_mul_zpow-requires-clause-first_line : goal.one_mul_zpow-requires-clause-first_line
one_mul_zpow-requires-clause-first_line c =
    let a = (grows-stands _ _ (grows-then _ _ _ c.multiplied.ensures.grows (grows-then _ _ _ c.line_of.ensures.grows c.numeral_of_integer.ensures.grows)) _ _ _ c.requires.power.power).tree in
    let b = (target _ _ _ _ _ (grows-turns _ _ (grows-then _ _ _ c.line_of.ensures.grows c.numeral_of_integer.ensures.grows) _ _ _ _ c.in_ok-r.ensures.turns)).tree in
    let i = c.in_ok-k.ensures.stands.tree in
    rw (a, b, i) (grows-proves _ _ _ _ _ c.numeral_of_integer.ensures.grows (c.in_ok-line.ensures.proves _ _ _ c.in_ok-r.ensures.turns))

pub returns-clause-power : goal.returns-clause-power
returns-clause-power c = grows-stands _ _ (grows-then _ _ _ (grows-then _ _ _ c.line_of.ensures.grows c.numeral_of_integer.ensures.grows) c.one_mul_zpow.ensures.grows) _ _ _ (target _ _ _ _ _ c.in_ok-r.ensures.turns)

pub returns-clause-turns : goal.returns-clause-turns
returns-clause-turns c =
    let a = (grows-stands _ _ (grows-then _ _ _ c.multiplied.ensures.grows (grows-then _ _ _ c.line_of.ensures.grows c.numeral_of_integer.ensures.grows)) _ _ _ c.requires.power.power).tree in
    let b = (target _ _ _ _ _ (grows-turns _ _ (grows-then _ _ _ c.line_of.ensures.grows c.numeral_of_integer.ensures.grows) _ _ _ _ c.in_ok-r.ensures.turns)).tree in
    let i = c.in_ok-k.ensures.stands.tree in
    rw (a, b, i) at c.in_ok-turns.ensures.turns
