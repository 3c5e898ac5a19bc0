use Rattle.alg_build.proofs.Lines.{grows-proves, grows-then}
use Rattle.alg_numerals.proofs.LiteralLemmas.{grows-combines}
use Rattle.alg_powers.proofs.powers.double_by.Goals as goal

pub pow_double-requires-clause-first_line : goal.pow_double-requires-clause-first_line
pow_double-requires-clause-first_line c =
    let e = grows-combines _ _ c.numeral_of_integer.ensures.grows _ _ _ _ _ _ c.in_ok-exponents.ensures.combines in
    rw (e.first.tree, e.total.tree) e.line

pub pow_double-requires-clause-second_line : goal.pow_double-requires-clause-second_line
pow_double-requires-clause-second_line c =
    let g = grows-then _ _ _ c.sum.ensures.grows c.numeral_of_integer.ensures.grows in
    let e = grows-combines _ _ c.numeral_of_integer.ensures.grows _ _ _ _ _ _ c.in_ok-exponents.ensures.combines in
    let s = grows-combines _ _ g _ _ _ _ _ _ c.requires.squares in
    rw (c.in_ok-base.ensures.stands.tree, e.first.tree, s.first.tree) (grows-proves _ _ _ _ _ g c.requires.half)

pub pow_double-requires-clause-third_line : goal.pow_double-requires-clause-third_line
pow_double-requires-clause-third_line c =
    let g = grows-then _ _ _ c.sum.ensures.grows c.numeral_of_integer.ensures.grows in
    let s = grows-combines _ _ g _ _ _ _ _ _ c.requires.squares in
    rw (s.first.tree, s.total.tree) s.line

pub returns-clause-turns : goal.returns-clause-turns
returns-clause-turns c =
    let g = grows-then _ _ _ c.sum.ensures.grows c.numeral_of_integer.ensures.grows in
    let e = grows-combines _ _ c.numeral_of_integer.ensures.grows _ _ _ _ _ _ c.in_ok-exponents.ensures.combines in
    let s = grows-combines _ _ g _ _ _ _ _ _ c.requires.squares in
    rw (← c.in_ok-base.ensures.stands.tree, ← e.total.tree, ← s.total.tree) c.pow_double.ensures.turns

pub returns-clause-grows : goal.returns-clause-grows
returns-clause-grows c = grows-then _ _ _ (grows-then _ _ _ c.sum.ensures.grows c.numeral_of_integer.ensures.grows) c.pow_double.ensures.grows
