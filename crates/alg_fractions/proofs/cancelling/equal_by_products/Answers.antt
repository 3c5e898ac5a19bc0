use Rattle.alg_build.proofs.Lines.{grows-proves, grows-then}
use Rattle.alg_build.proofs.Rewritings.{grows-stands, grows-turns, is-rewriting}
use Rattle.alg_fractions.proofs.cancelling.equal_by_products.Goals as goal

pub line_of-requires-2 : goal.line_of-requires-2
line_of-requires-2 c = is-rewriting _ _ _ _ _ (grows-turns _ _ c.line_of.ensures.grows _ _ _ _ c.requires.right_turns)

pub equal_by_lines-requires-clause-left_line : goal.equal_by_lines-requires-clause-left_line
equal_by_lines-requires-clause-left_line c =
    let g = grows-then _ _ _ c.line_of.ensures.grows c.line_of-2.ensures.grows in
    rw (grows-stands _ _ g _ _ _ c.requires.a_stands).tree (grows-proves _ _ _ _ _ c.line_of-2.ensures.grows (c.in_ok-i.ensures.proves _ _ _ c.requires.left_turns))

pub equal_by_lines-requires-clause-right_line : goal.equal_by_lines-requires-clause-right_line
equal_by_lines-requires-clause-right_line c =
    let g = grows-then _ _ _ c.line_of.ensures.grows c.line_of-2.ensures.grows in
    rw (grows-stands _ _ g _ _ _ c.requires.b_stands).tree (c.in_ok-j.ensures.proves _ _ _ (grows-turns _ _ c.line_of.ensures.grows _ _ _ _ c.requires.right_turns))

pub returns-clause-turns : goal.returns-clause-turns
returns-clause-turns c =
    let g = grows-then _ _ _ c.line_of.ensures.grows c.line_of-2.ensures.grows in
    rw (← (grows-stands _ _ g _ _ _ c.requires.a_stands).tree, ← (grows-stands _ _ g _ _ _ c.requires.b_stands).tree) c.in_ok-r.ensures.turns
