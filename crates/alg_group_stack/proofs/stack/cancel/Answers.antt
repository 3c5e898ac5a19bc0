use Rattle.alg_build.proofs.Rewritings.{grows-stands}
use Rattle.alg_group_stack.proofs.Homes.{own-stands}
use Rattle.alg_group_stack.proofs.stack.cancel.Goals as goal

pub word_cancel-requires-clause-a_stands : goal.word_cancel-requires-clause-a_stands
word_cancel-requires-clause-a_stands c = own-stands _ _ _ _ (grows-stands _ _ c.to_one.ensures.grows _ _ _ c.requires.before)

pub word_cancel-requires-clause-b_stands : goal.word_cancel-requires-clause-b_stands
word_cancel-requires-clause-b_stands c = own-stands _ _ _ _ (grows-stands _ _ c.to_one.ensures.grows _ _ _ c.requires.left.power)

pub word_cancel-requires-clause-c_stands : goal.word_cancel-requires-clause-c_stands
word_cancel-requires-clause-c_stands c = own-stands _ _ _ _ (grows-stands _ _ c.to_one.ensures.grows _ _ _ c.requires.right.power)

pub word_cancel-requires-clause-first_line : goal.word_cancel-requires-clause-first_line
word_cancel-requires-clause-first_line c =
    let p = (grows-stands _ _ c.to_one.ensures.grows _ _ _ c.requires.left.power).tree in
    let q = (grows-stands _ _ c.to_one.ensures.grows _ _ _ c.requires.right.power).tree in
    rw (p, q, ← c.requires.same) c.in_ok-line.ensures.proves

pub returns-clause-turns : goal.returns-clause-turns
returns-clause-turns c =
    let a = (grows-stands _ _ c.to_one.ensures.grows _ _ _ c.requires.before).tree in
    let p = (grows-stands _ _ c.to_one.ensures.grows _ _ _ c.requires.left.power).tree in
    let q = (grows-stands _ _ c.to_one.ensures.grows _ _ _ c.requires.right.power).tree in
    rw (a, p, q) at c.word_cancel.ensures.turns
