use Rattle.alg_build.proofs.Rewritings.{grows-stands, grows-turns, is-rewriting, target}
use Rattle.alg_group_stack.proofs.Homes.{own-stands}
use Rattle.alg_group_spelling.proofs.spelling.as_quotient.Goals as goal

pub line_of-requires : goal.line_of-requires
line_of-requires c = is-rewriting _ _ _ _ _ c.requires.turns

pub div_of_word-requires-clause-a_stands : goal.div_of_word-requires-clause-a_stands
div_of_word-requires-clause-a_stands c = own-stands _ _ _ _ (grows-stands _ _ c.line_of.ensures.grows _ _ _ c.requires.left)

pub div_of_word-requires-clause-b_stands : goal.div_of_word-requires-clause-b_stands
div_of_word-requires-clause-b_stands c = own-stands _ _ _ _ (grows-stands _ _ c.line_of.ensures.grows _ _ _ c.requires.right)

pub div_of_word-requires-clause-c_stands : goal.div_of_word-requires-clause-c_stands
div_of_word-requires-clause-c_stands c = own-stands _ _ _ _ (target _ _ _ _ _ (grows-turns _ _ c.line_of.ensures.grows _ _ _ _ c.requires.turns))

pub div_of_word-requires-clause-first_line : goal.div_of_word-requires-clause-first_line
div_of_word-requires-clause-first_line c =
    let a = (grows-stands _ _ c.line_of.ensures.grows _ _ _ c.requires.left).tree in
    let b = (grows-stands _ _ c.line_of.ensures.grows _ _ _ c.requires.right).tree in
    let d = (target _ _ _ _ _ (grows-turns _ _ c.line_of.ensures.grows _ _ _ _ c.requires.turns)).tree in
    rw (a, b, d) (c.in_ok-line.ensures.proves _ _ _ c.requires.turns)

pub returns-clause-turns : goal.returns-clause-turns
returns-clause-turns c =
    let a = (grows-stands _ _ c.line_of.ensures.grows _ _ _ c.requires.left).tree in
    let b = (grows-stands _ _ c.line_of.ensures.grows _ _ _ c.requires.right).tree in
    let d = (target _ _ _ _ _ (grows-turns _ _ c.line_of.ensures.grows _ _ _ _ c.requires.turns)).tree in
    rw (a, b, d) at c.div_of_word.ensures.turns
