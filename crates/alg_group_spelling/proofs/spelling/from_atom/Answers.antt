use Rattle.alg_build.proofs.Lines.{grows-then}
use Rattle.alg_build.proofs.Rewritings.{grows-stands, is-rewriting}
use Rattle.alg_group_stack.proofs.Homes.{own-stands}
use Rattle.alg_group_spelling.proofs.NormalLemmas.{first-turns}
use Rattle.alg_group_spelling.proofs.spelling.from_atom.Goals as goal

pub line_of-requires : goal.line_of-requires
line_of-requires c = is-rewriting _ _ _ _ _ c.in_ok-r.ensures.turns

pub atom_word-requires-clause-a_stands : goal.atom_word-requires-clause-a_stands
atom_word-requires-clause-a_stands c = own-stands _ _ _ _ (grows-stands _ _ (grows-then _ _ _ c.first_power.ensures.grows c.line_of.ensures.grows) _ _ _ c.requires.base)

pub atom_word-requires-clause-b_stands : goal.atom_word-requires-clause-b_stands
atom_word-requires-clause-b_stands c = own-stands _ _ _ _ (grows-stands _ _ (grows-then _ _ _ c.first_power.ensures.grows c.line_of.ensures.grows) _ _ _ c.requires.power)

pub atom_word-requires-clause-first_line : goal.atom_word-requires-clause-first_line
atom_word-requires-clause-first_line c =
    let a = (grows-stands _ _ (grows-then _ _ _ c.first_power.ensures.grows c.line_of.ensures.grows) _ _ _ c.requires.base).tree in
    let p = (grows-stands _ _ (grows-then _ _ _ c.first_power.ensures.grows c.line_of.ensures.grows) _ _ _ c.requires.power).tree in
    rw (a, p) (c.in_ok-line.ensures.proves _ _ _ (first-turns _ _ _ _ _ c.in_ok-r.ensures.turns))

pub returns-clause-turns : goal.returns-clause-turns
returns-clause-turns c =
    let a = (grows-stands _ _ (grows-then _ _ _ c.first_power.ensures.grows c.line_of.ensures.grows) _ _ _ c.requires.base).tree in
    let p = (grows-stands _ _ (grows-then _ _ _ c.first_power.ensures.grows c.line_of.ensures.grows) _ _ _ c.requires.power).tree in
    rw (a, p) at c.atom_word.ensures.turns
