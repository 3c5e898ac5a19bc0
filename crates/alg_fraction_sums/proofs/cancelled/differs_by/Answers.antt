use Rattle.alg_build.proofs.Leading.{concludes-grows}
use Rattle.alg_build.proofs.Rewritings.{grows-stands}
use Rattle.alg_fraction_sums.proofs.cancelled.differs_by.Goals as goal

pub ne_of_mul-requires-clause-first_line : goal.ne_of_mul-requires-clause-first_line
ne_of_mul-requires-clause-first_line c =
    let g = c.compared_literals.ensures.grows in
    let a = grows-stands _ _ g _ _ _ c.requires.a_stands in
    let b = grows-stands _ _ g _ _ _ c.requires.b_stands in
    let q = c.in_ok-some.ensures.compares in
    rw (a.tree, b.tree, q.first.tree) (concludes-grows _ _ _ _ g c.requires.relation)

pub ne_of_mul-requires-clause-second_line : goal.ne_of_mul-requires-clause-second_line
ne_of_mul-requires-clause-second_line c =
    let q = c.in_ok-some.ensures.compares in
    rw q.first.tree q.line

pub returns-clause-concludes : goal.returns-clause-concludes
returns-clause-concludes c =
    let g = c.compared_literals.ensures.grows in
    let a = grows-stands _ _ g _ _ _ c.requires.a_stands in
    let b = grows-stands _ _ g _ _ _ c.requires.b_stands in
    rw (← a.tree, ← b.tree) c.ne_of_mul.ensures.concludes
