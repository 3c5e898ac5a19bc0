use Rattle.alg_build.proofs.Lines.{grows-then}
use Rattle.alg_build.proofs.Rewritings.{grows-stands, grows-turns, is-rewriting, target}
use Rattle.alg_group_stack.proofs.Homes.{own-stands}
use Rattle.alg_group_spelling.proofs.normal.first_shown.Goals as goal

pub line_of-requires : goal.line_of-requires
line_of-requires c = is-rewriting _ _ _ _ _ c.in_ok-r.ensures.turns

pub word_first-requires-clause-a_stands : goal.word_first-requires-clause-a_stands
word_first-requires-clause-a_stands c = own-stands _ _ _ _ (grows-stands _ _ (grows-then _ _ _ c.shown.ensures.grows c.line_of.ensures.grows) _ _ _ c.requires.power.power)

pub word_first-requires-clause-b_stands : goal.word_first-requires-clause-b_stands
word_first-requires-clause-b_stands c = own-stands _ _ _ _ (target _ _ _ _ _ (grows-turns _ _ c.line_of.ensures.grows _ _ _ _ c.in_ok-r.ensures.turns))

pub word_first-requires-clause-first_line : goal.word_first-requires-clause-first_line
word_first-requires-clause-first_line c =
    let a = (grows-stands _ _ (grows-then _ _ _ c.shown.ensures.grows c.line_of.ensures.grows) _ _ _ c.requires.power.power).tree in
    let b = (target _ _ _ _ _ (grows-turns _ _ c.line_of.ensures.grows _ _ _ _ c.in_ok-r.ensures.turns)).tree in
    rw (a, b) (c.in_ok-line.ensures.proves _ _ _ c.in_ok-r.ensures.turns)

pub returns-clause-turns : goal.returns-clause-turns
returns-clause-turns c =
    let a = (grows-stands _ _ (grows-then _ _ _ c.shown.ensures.grows c.line_of.ensures.grows) _ _ _ c.requires.power.power).tree in
    let b = (target _ _ _ _ _ (grows-turns _ _ c.line_of.ensures.grows _ _ _ _ c.in_ok-r.ensures.turns)).tree in
    rw (a, b) at c.word_first.ensures.turns
