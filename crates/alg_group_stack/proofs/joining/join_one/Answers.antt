use Rattle.std.proofs.Common.{◌∙◌}
use Rattle.alg_build.proofs.Lines.{grows-then}
use Rattle.alg_build.proofs.Rewritings.{grows-stands, grows-turns, is-rewriting, follows, target}
use Rattle.alg_group_stack.proofs.Homes.{own-stands}
use Rattle.alg_group_stack.proofs.WordLemmas.{grows-power, grows-word}
use Rattle.alg_group_stack.proofs.StepLemmas.{after, grows-room, pushed-from, pushed-pairs}
use Rattle.alg_group_stack.proofs.joining.join_one.Goals as goal

pub line_of-requires : goal.line_of-requires
line_of-requires c = is-rewriting _ _ _ _ _ c.requires.turns

pub mul_same-requires-clause-a_stands : goal.mul_same-requires-clause-a_stands
mul_same-requires-clause-a_stands c = own-stands _ _ _ _ (grows-stands _ _ c.line_of.ensures.grows _ _ _ c.requires.left)

pub mul_same-requires-clause-b_stands : goal.mul_same-requires-clause-b_stands
mul_same-requires-clause-b_stands c = own-stands _ _ _ _ (grows-stands _ _ c.line_of.ensures.grows _ _ _ c.requires.before)

pub mul_same-requires-clause-c_stands : goal.mul_same-requires-clause-c_stands
mul_same-requires-clause-c_stands c = own-stands _ _ _ _ (target _ _ _ _ _ (grows-turns _ _ c.line_of.ensures.grows _ _ _ _ c.requires.turns))

pub mul_same-requires-clause-d_stands : goal.mul_same-requires-clause-d_stands
mul_same-requires-clause-d_stands c = own-stands _ _ _ _ (grows-stands _ _ c.line_of.ensures.grows _ _ _ c.requires.power.power)

pub mul_same-requires-clause-first_line : goal.mul_same-requires-clause-first_line
mul_same-requires-clause-first_line c = rw ((grows-stands _ _ c.line_of.ensures.grows _ _ _ c.requires.left).tree, (grows-stands _ _ c.line_of.ensures.grows _ _ _ c.requires.before).tree, (target _ _ _ _ _ (grows-turns _ _ c.line_of.ensures.grows _ _ _ _ c.requires.turns)).tree) (c.in_ok-line.ensures.proves _ _ _ c.requires.turns)

pub push-requires-clause-word : goal.push-requires-clause-word
push-requires-clause-word c = grows-word _ _ (grows-then _ _ _ c.line_of.ensures.grows c.mul_same.ensures.grows) _ _ c.requires.word

pub push-requires-clause-power : goal.push-requires-clause-power
push-requires-clause-power c = grows-power _ _ (grows-then _ _ _ c.line_of.ensures.grows c.mul_same.ensures.grows) _ _ c.requires.power

pub push-requires-clause-room : goal.push-requires-clause-room
push-requires-clause-room c = grows-room _ _ (grows-then _ _ _ c.line_of.ensures.grows c.mul_same.ensures.grows) _ _ c.requires.word _ c.requires.room

pub then-requires : goal.then-requires
then-requires c = follows _ _ _ _ _ _ _ (grows-turns _ _ c.push.ensures.grows _ _ _ _ (rw ((grows-stands _ _ c.line_of.ensures.grows _ _ _ c.requires.left).tree, (grows-stands _ _ c.line_of.ensures.grows _ _ _ c.requires.before).tree, (target _ _ _ _ _ (grows-turns _ _ c.line_of.ensures.grows _ _ _ _ c.requires.turns)).tree, (grows-stands _ _ c.line_of.ensures.grows _ _ _ c.requires.power.power).tree) at c.in_ok-m.ensures.turns)) (pushed-from _ _ (grows-then _ _ _ c.line_of.ensures.grows c.mul_same.ensures.grows) _ _ c.requires.word _ _ _ _ c.requires.power c.in_ok-q.ensures.turns)

pub returns-clause-word : goal.returns-clause-word
returns-clause-word c = (after _ _ _ _ _ _ _ c.then.ensures.grows c.in_ok-q.ensures.word (c.in_ok-q.ensures.pairs ∙ pushed-pairs _ _ (grows-then _ _ _ c.line_of.ensures.grows c.mul_same.ensures.grows) _ _ c.requires.word _ c.requires.power) (c.in_ok-p.ensures.turns _ _ _ _ (grows-turns _ _ c.push.ensures.grows _ _ _ _ (rw ((grows-stands _ _ c.line_of.ensures.grows _ _ _ c.requires.left).tree, (grows-stands _ _ c.line_of.ensures.grows _ _ _ c.requires.before).tree, (target _ _ _ _ _ (grows-turns _ _ c.line_of.ensures.grows _ _ _ _ c.requires.turns)).tree, (grows-stands _ _ c.line_of.ensures.grows _ _ _ c.requires.power.power).tree) at c.in_ok-m.ensures.turns)) (pushed-from _ _ (grows-then _ _ _ c.line_of.ensures.grows c.mul_same.ensures.grows) _ _ c.requires.word _ _ _ _ c.requires.power c.in_ok-q.ensures.turns))).word

pub returns-clause-pairs : goal.returns-clause-pairs
returns-clause-pairs c = (after _ _ _ _ _ _ _ c.then.ensures.grows c.in_ok-q.ensures.word (c.in_ok-q.ensures.pairs ∙ pushed-pairs _ _ (grows-then _ _ _ c.line_of.ensures.grows c.mul_same.ensures.grows) _ _ c.requires.word _ c.requires.power) (c.in_ok-p.ensures.turns _ _ _ _ (grows-turns _ _ c.push.ensures.grows _ _ _ _ (rw ((grows-stands _ _ c.line_of.ensures.grows _ _ _ c.requires.left).tree, (grows-stands _ _ c.line_of.ensures.grows _ _ _ c.requires.before).tree, (target _ _ _ _ _ (grows-turns _ _ c.line_of.ensures.grows _ _ _ _ c.requires.turns)).tree, (grows-stands _ _ c.line_of.ensures.grows _ _ _ c.requires.power.power).tree) at c.in_ok-m.ensures.turns)) (pushed-from _ _ (grows-then _ _ _ c.line_of.ensures.grows c.mul_same.ensures.grows) _ _ c.requires.word _ _ _ _ c.requires.power c.in_ok-q.ensures.turns))).pairs

pub returns-clause-turns : goal.returns-clause-turns
returns-clause-turns c = (after _ _ _ _ _ _ _ c.then.ensures.grows c.in_ok-q.ensures.word (c.in_ok-q.ensures.pairs ∙ pushed-pairs _ _ (grows-then _ _ _ c.line_of.ensures.grows c.mul_same.ensures.grows) _ _ c.requires.word _ c.requires.power) (c.in_ok-p.ensures.turns _ _ _ _ (grows-turns _ _ c.push.ensures.grows _ _ _ _ (rw ((grows-stands _ _ c.line_of.ensures.grows _ _ _ c.requires.left).tree, (grows-stands _ _ c.line_of.ensures.grows _ _ _ c.requires.before).tree, (target _ _ _ _ _ (grows-turns _ _ c.line_of.ensures.grows _ _ _ _ c.requires.turns)).tree, (grows-stands _ _ c.line_of.ensures.grows _ _ _ c.requires.power.power).tree) at c.in_ok-m.ensures.turns)) (pushed-from _ _ (grows-then _ _ _ c.line_of.ensures.grows c.mul_same.ensures.grows) _ _ c.requires.word _ _ _ _ c.requires.power c.in_ok-q.ensures.turns))).turns
