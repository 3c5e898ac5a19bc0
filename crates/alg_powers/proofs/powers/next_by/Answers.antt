use Rattle.alg_build.proofs.Lines.{grows-proves, grows-then}
use Rattle.alg_numerals.proofs.LiteralLemmas.{grows-combines}
use Rattle.alg_powers.proofs.powers.next_by.Goals as goal

pub pow_next-requires-clause-second_line : goal.pow_next-requires-clause-second_line
pow_next-requires-clause-second_line c =
    let e = c.in_ok-exponents.ensures.combines in
    let s = grows-combines _ _ c.sum.ensures.grows _ _ _ _ _ _ c.requires.multiplies in
    rw (s.second.tree, e.first.tree, s.first.tree) (grows-proves _ _ _ _ _ c.sum.ensures.grows c.requires.lesser)

pub pow_next-requires-clause-third_line : goal.pow_next-requires-clause-third_line
pow_next-requires-clause-third_line c =
    let s = grows-combines _ _ c.sum.ensures.grows _ _ _ _ _ _ c.requires.multiplies in
    rw (s.first.tree, s.second.tree, s.total.tree) s.line

pub returns-clause-turns : goal.returns-clause-turns
returns-clause-turns c =
    let e = c.in_ok-exponents.ensures.combines in
    let s = grows-combines _ _ c.sum.ensures.grows _ _ _ _ _ _ c.requires.multiplies in
    rw (← s.second.tree, ← e.total.tree, ← s.total.tree) c.pow_next.ensures.turns

pub returns-clause-grows : goal.returns-clause-grows
returns-clause-grows c = grows-then _ _ _ c.sum.ensures.grows c.pow_next.ensures.grows
