use Rattle.alg_build.proofs.Lines.{grows-proves, grows-then}
use Rattle.alg_build.proofs.Rewritings.{grows-stands, grows-turns, is-rewriting, target}
use Rattle.alg_group_stack.proofs.Homes.{own-stands}
use Rattle.alg_group_spelling.proofs.raising.next_power.Goals as goal

pub line_of-requires : goal.line_of-requires
line_of-requires c = is-rewriting _ _ _ _ _ c.requires.turns

pub pow_next-requires-clause-a_stands : goal.pow_next-requires-clause-a_stands
pow_next-requires-clause-a_stands c = own-stands _ _ _ _ (grows-stands _ _ (grows-then _ _ _ c.line_of.ensures.grows c.sum.ensures.grows) _ _ _ c.requires.base)

pub pow_next-requires-clause-b_stands : goal.pow_next-requires-clause-b_stands
pow_next-requires-clause-b_stands c = own-stands _ _ _ _ (grows-stands _ _ (grows-then _ _ _ c.line_of.ensures.grows c.sum.ensures.grows) _ _ _ c.requires.before)

pub pow_next-requires-clause-c_stands : goal.pow_next-requires-clause-c_stands
pow_next-requires-clause-c_stands c = own-stands _ _ _ _ (target _ _ _ _ _ (grows-turns _ _ (grows-then _ _ _ c.line_of.ensures.grows c.sum.ensures.grows) _ _ _ _ c.requires.turns))

pub pow_next-requires-clause-m_stands : goal.pow_next-requires-clause-m_stands
pow_next-requires-clause-m_stands c = own-stands _ _ _ _ c.in_ok-q.ensures.combines.first

pub pow_next-requires-clause-n_stands : goal.pow_next-requires-clause-n_stands
pow_next-requires-clause-n_stands c = own-stands _ _ _ _ c.in_ok-q.ensures.combines.total

pub pow_next-requires-clause-first_line : goal.pow_next-requires-clause-first_line
pow_next-requires-clause-first_line c =
    let k = c.in_ok-q.ensures.combines.first.tree in
    let n = c.in_ok-q.ensures.combines.total.tree in
    rw (k, n) c.in_ok-q.ensures.combines.line

pub pow_next-requires-clause-second_line : goal.pow_next-requires-clause-second_line
pow_next-requires-clause-second_line c =
    let g = grows-then _ _ _ c.line_of.ensures.grows c.sum.ensures.grows in
    let a = (grows-stands _ _ g _ _ _ c.requires.base).tree in
    let b = (grows-stands _ _ g _ _ _ c.requires.before).tree in
    let k = c.in_ok-q.ensures.combines.first.tree in
    rw (a, b, k) (grows-proves _ _ _ _ _ g c.requires.power)

pub pow_next-requires-clause-third_line : goal.pow_next-requires-clause-third_line
pow_next-requires-clause-third_line c =
    let g = grows-then _ _ _ c.line_of.ensures.grows c.sum.ensures.grows in
    let a = (grows-stands _ _ g _ _ _ c.requires.base).tree in
    let b = (grows-stands _ _ g _ _ _ c.requires.before).tree in
    let r = (target _ _ _ _ _ (grows-turns _ _ g _ _ _ _ c.requires.turns)).tree in
    rw (a, b, r) (grows-proves _ _ _ _ _ c.sum.ensures.grows (c.in_ok-product.ensures.proves _ _ _ c.requires.turns))

pub returns-clause-turns : goal.returns-clause-turns
returns-clause-turns c =
    let g = grows-then _ _ _ c.line_of.ensures.grows c.sum.ensures.grows in
    let a = (grows-stands _ _ g _ _ _ c.requires.base).tree in
    let n = c.in_ok-q.ensures.combines.total.tree in
    let r = (target _ _ _ _ _ (grows-turns _ _ g _ _ _ _ c.requires.turns)).tree in
    rw (a, n, r) at c.pow_next.ensures.turns
