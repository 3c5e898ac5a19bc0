use Rattle.alg_build.proofs.Lines.{grows-then}
use Rattle.alg_build.proofs.Rewritings.{grows-stands, grows-turns, is-rewriting, stands-over_one, target}
use Rattle.alg_group_stack.proofs.Homes.{head-inverse, own-stands}
use Rattle.alg_group_spelling.proofs.raising.without_one.Goals as goal

pub under_one-requires : goal.under_one-requires
under_one-requires c = stands-over_one _ _ _ _ _ _ _ (c.keep-kept.ensures _ _ c.whole-all.ensures) (head-inverse _ _ c.requires.home)

pub line_of-requires : goal.line_of-requires
line_of-requires c = is-rewriting _ _ _ _ _ (grows-turns _ _ c.under_one.ensures.grows _ _ _ _ c.requires.turns)

pub inv_of_word-requires-clause-a_stands : goal.inv_of_word-requires-clause-a_stands
inv_of_word-requires-clause-a_stands c = own-stands _ _ _ _ (grows-stands _ _ c.line_of.ensures.grows _ _ _ (target _ _ _ _ _ (c.in_ok-inverse.ensures.turns _ _ _ (c.keep-kept.ensures _ _ c.whole-all.ensures) (head-inverse _ _ c.requires.home))))

pub inv_of_word-requires-clause-b_stands : goal.inv_of_word-requires-clause-b_stands
inv_of_word-requires-clause-b_stands c = own-stands _ _ _ _ (target _ _ _ _ _ (grows-turns _ _ (grows-then _ _ _ c.under_one.ensures.grows c.line_of.ensures.grows) _ _ _ _ c.requires.turns))

pub inv_of_word-requires-clause-first_line : goal.inv_of_word-requires-clause-first_line
inv_of_word-requires-clause-first_line c =
    let i = (grows-stands _ _ c.line_of.ensures.grows _ _ _ (target _ _ _ _ _ (c.in_ok-inverse.ensures.turns _ _ _ (c.keep-kept.ensures _ _ c.whole-all.ensures) (head-inverse _ _ c.requires.home)))).tree in
    let r = (target _ _ _ _ _ (grows-turns _ _ (grows-then _ _ _ c.under_one.ensures.grows c.line_of.ensures.grows) _ _ _ _ c.requires.turns)).tree in
    rw (i, r) (c.in_ok-line.ensures.proves _ _ _ (grows-turns _ _ c.under_one.ensures.grows _ _ _ _ c.requires.turns))

pub returns-clause-turns : goal.returns-clause-turns
returns-clause-turns c =
    let i = (grows-stands _ _ c.line_of.ensures.grows _ _ _ (target _ _ _ _ _ (c.in_ok-inverse.ensures.turns _ _ _ (c.keep-kept.ensures _ _ c.whole-all.ensures) (head-inverse _ _ c.requires.home)))).tree in
    let r = (target _ _ _ _ _ (grows-turns _ _ (grows-then _ _ _ c.under_one.ensures.grows c.line_of.ensures.grows) _ _ _ _ c.requires.turns)).tree in
    rw (i, r) at c.inv_of_word.ensures.turns
