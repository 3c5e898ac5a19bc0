use Rattle.alg_build.proofs.Lines.{grows-then}
use Rattle.alg_build.proofs.Rewritings.{grows-stands, grows-turns, is-rewriting, target}
use Rattle.alg_group_stack.proofs.Homes.{own-stands}
use Rattle.alg_group_stack.proofs.joining.step_out.Goals as goal

pub line_of-requires : goal.line_of-requires
line_of-requires c = is-rewriting _ _ _ _ _ c.in_ok-o.ensures.turns

pub word_inv-requires-clause-a_stands : goal.word_inv-requires-clause-a_stands
word_inv-requires-clause-a_stands c = own-stands _ _ _ _ (grows-stands _ _ (grows-then _ _ _ c.opposite.ensures.grows c.line_of.ensures.grows) _ _ _ c.requires.left)

pub word_inv-requires-clause-b_stands : goal.word_inv-requires-clause-b_stands
word_inv-requires-clause-b_stands c = own-stands _ _ _ _ (grows-stands _ _ (grows-then _ _ _ c.opposite.ensures.grows c.line_of.ensures.grows) _ _ _ c.requires.before)

pub word_inv-requires-clause-c_stands : goal.word_inv-requires-clause-c_stands
word_inv-requires-clause-c_stands c = own-stands _ _ _ _ (grows-stands _ _ (grows-then _ _ _ c.opposite.ensures.grows c.line_of.ensures.grows) _ _ _ c.requires.power.power)

pub word_inv-requires-clause-d_stands : goal.word_inv-requires-clause-d_stands
word_inv-requires-clause-d_stands c = own-stands _ _ _ _ (target _ _ _ _ _ (grows-turns _ _ c.line_of.ensures.grows _ _ _ _ c.in_ok-o.ensures.turns))

pub word_inv-requires-clause-first_line : goal.word_inv-requires-clause-first_line
word_inv-requires-clause-first_line c = rw ((grows-stands _ _ (grows-then _ _ _ c.opposite.ensures.grows c.line_of.ensures.grows) _ _ _ c.requires.power.power).tree, (target _ _ _ _ _ (grows-turns _ _ c.line_of.ensures.grows _ _ _ _ c.in_ok-o.ensures.turns)).tree) (c.in_ok-line.ensures.proves _ _ _ c.in_ok-o.ensures.turns)

pub returns-clause-power : goal.returns-clause-power
returns-clause-power c = grows-stands _ _ (grows-then _ _ _ c.line_of.ensures.grows c.word_inv.ensures.grows) _ _ _ (target _ _ _ _ _ c.in_ok-o.ensures.turns)

pub returns-clause-turns : goal.returns-clause-turns
returns-clause-turns c = rw ((grows-stands _ _ (grows-then _ _ _ c.opposite.ensures.grows c.line_of.ensures.grows) _ _ _ c.requires.left).tree, (grows-stands _ _ (grows-then _ _ _ c.opposite.ensures.grows c.line_of.ensures.grows) _ _ _ c.requires.before).tree, (grows-stands _ _ (grows-then _ _ _ c.opposite.ensures.grows c.line_of.ensures.grows) _ _ _ c.requires.power.power).tree, (target _ _ _ _ _ (grows-turns _ _ c.line_of.ensures.grows _ _ _ _ c.in_ok-o.ensures.turns)).tree) at c.in_ok-turns.ensures.turns

pub returns-clause-grows : goal.returns-clause-grows
returns-clause-grows c = grows-then _ _ _ c.opposite.ensures.grows (grows-then _ _ _ c.line_of.ensures.grows c.word_inv.ensures.grows)
