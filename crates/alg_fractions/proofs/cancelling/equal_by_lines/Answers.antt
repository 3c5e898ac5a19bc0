use Rattle.alg_build.proofs.Lines.{grows-proves, grows-then}
use Rattle.alg_build.proofs.Rewritings.{grows-stands}
use Rattle.alg_numerals.proofs.RelationLemmas.{grows-compares}
use Rattle.alg_fractions.proofs.cancelling.equal_by_lines.Goals as goal

pub eq_of_mul-requires-clause-first_line : goal.eq_of_mul-requires-clause-first_line
eq_of_mul-requires-clause-first_line c =
    let g = grows-then _ _ _ c.compared_literals.ensures.grows c.numeral_of_integer.ensures.grows in
    let some = grows-compares _ _ c.numeral_of_integer.ensures.grows _ _ _ _ _ c.in_ok-some.ensures.compares in
    rw ((grows-stands _ _ g _ _ _ c.requires.a_stands).tree, some.first.tree, c.in_ok-total.ensures.stands.tree) (grows-proves _ _ _ _ _ g c.requires.left_line)

pub eq_of_mul-requires-clause-second_line : goal.eq_of_mul-requires-clause-second_line
eq_of_mul-requires-clause-second_line c =
    let g = grows-then _ _ _ c.compared_literals.ensures.grows c.numeral_of_integer.ensures.grows in
    let some = grows-compares _ _ c.numeral_of_integer.ensures.grows _ _ _ _ _ c.in_ok-some.ensures.compares in
    rw ((grows-stands _ _ g _ _ _ c.requires.b_stands).tree, some.first.tree, c.in_ok-total.ensures.stands.tree) (grows-proves _ _ _ _ _ g c.requires.right_line)

pub eq_of_mul-requires-clause-third_line : goal.eq_of_mul-requires-clause-third_line
eq_of_mul-requires-clause-third_line c =
    let some = grows-compares _ _ c.numeral_of_integer.ensures.grows _ _ _ _ _ c.in_ok-some.ensures.compares in
    rw some.first.tree some.line

pub returns-clause-turns : goal.returns-clause-turns
returns-clause-turns c =
    let g = grows-then _ _ _ c.compared_literals.ensures.grows c.numeral_of_integer.ensures.grows in
    rw (← (grows-stands _ _ g _ _ _ c.requires.a_stands).tree, ← (grows-stands _ _ g _ _ _ c.requires.b_stands).tree) c.eq_of_mul.ensures.turns
