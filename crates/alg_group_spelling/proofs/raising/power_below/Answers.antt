use Rattle.alg_build.proofs.Lines.{grows-proves, grows-then}
use Rattle.alg_build.proofs.Rewritings.{grows-stands, grows-turns, is-rewriting, target}
use Rattle.alg_group_stack.proofs.Homes.{own-stands}
use Rattle.alg_group_spelling.proofs.raising.power_below.Goals as goal

pub line_of-requires : goal.line_of-requires
line_of-requires c = is-rewriting _ _ _ _ _ c.requires.up

pub line_of-requires-2 : goal.line_of-requires-2
line_of-requires-2 c = is-rewriting _ _ _ _ _ (grows-turns _ _ c.line_of.ensures.grows _ _ _ _ c.requires.down)

pub zpow_neg_lit-requires-clause-a_stands : goal.zpow_neg_lit-requires-clause-a_stands
zpow_neg_lit-requires-clause-a_stands c = own-stands _ _ _ _ (grows-stands _ _ (grows-then _ _ _ c.line_of.ensures.grows (grows-then _ _ _ c.line_of-2.ensures.grows c.literal.ensures.grows)) _ _ _ c.requires.base)

pub zpow_neg_lit-requires-clause-b_stands : goal.zpow_neg_lit-requires-clause-b_stands
zpow_neg_lit-requires-clause-b_stands c = own-stands _ _ _ _ (target _ _ _ _ _ (grows-turns _ _ (grows-then _ _ _ c.line_of.ensures.grows (grows-then _ _ _ c.line_of-2.ensures.grows c.literal.ensures.grows)) _ _ _ _ c.requires.up))

pub zpow_neg_lit-requires-clause-c_stands : goal.zpow_neg_lit-requires-clause-c_stands
zpow_neg_lit-requires-clause-c_stands c = own-stands _ _ _ _ (target _ _ _ _ _ (grows-turns _ _ (grows-then _ _ _ c.line_of.ensures.grows (grows-then _ _ _ c.line_of-2.ensures.grows c.literal.ensures.grows)) _ _ _ _ c.requires.down))

pub zpow_neg_lit-requires-clause-i_stands : goal.zpow_neg_lit-requires-clause-i_stands
zpow_neg_lit-requires-clause-i_stands c = own-stands _ _ _ _ c.in_ok-i.ensures.stands

pub zpow_neg_lit-requires-clause-first_line : goal.zpow_neg_lit-requires-clause-first_line
zpow_neg_lit-requires-clause-first_line c =
    let g = grows-then _ _ _ c.line_of.ensures.grows (grows-then _ _ _ c.line_of-2.ensures.grows c.literal.ensures.grows) in
    let a = (grows-stands _ _ g _ _ _ c.requires.base).tree in
    let b = (target _ _ _ _ _ (grows-turns _ _ g _ _ _ _ c.requires.up)).tree in
    let i = c.in_ok-i.ensures.stands.tree in
    rw (a, b, i) (grows-proves _ _ _ _ _ (grows-then _ _ _ c.line_of-2.ensures.grows c.literal.ensures.grows) (c.in_ok-first.ensures.proves _ _ _ c.requires.up))

pub zpow_neg_lit-requires-clause-second_line : goal.zpow_neg_lit-requires-clause-second_line
zpow_neg_lit-requires-clause-second_line c =
    let g = grows-then _ _ _ c.line_of.ensures.grows (grows-then _ _ _ c.line_of-2.ensures.grows c.literal.ensures.grows) in
    let b = (target _ _ _ _ _ (grows-turns _ _ g _ _ _ _ c.requires.up)).tree in
    let d = (target _ _ _ _ _ (grows-turns _ _ g _ _ _ _ c.requires.down)).tree in
    rw (b, d) (grows-proves _ _ _ _ _ c.literal.ensures.grows (c.in_ok-second.ensures.proves _ _ _ (grows-turns _ _ c.line_of.ensures.grows _ _ _ _ c.requires.down)))

pub returns-clause-turns : goal.returns-clause-turns
returns-clause-turns c =
    let g = grows-then _ _ _ c.line_of.ensures.grows (grows-then _ _ _ c.line_of-2.ensures.grows c.literal.ensures.grows) in
    let a = (grows-stands _ _ g _ _ _ c.requires.base).tree in
    let d = (target _ _ _ _ _ (grows-turns _ _ g _ _ _ _ c.requires.down)).tree in
    let i = c.in_ok-i.ensures.stands.tree in
    rw (a, d, i) at c.zpow_neg_lit.ensures.turns

pub returns-clause-grows : goal.returns-clause-grows
returns-clause-grows c = grows-then _ _ _ c.line_of.ensures.grows (grows-then _ _ _ c.line_of-2.ensures.grows (grows-then _ _ _ c.literal.ensures.grows c.zpow_neg_lit.ensures.grows))
