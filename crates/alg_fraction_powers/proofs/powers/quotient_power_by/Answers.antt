use Rattle.alg_build.proofs.Lines.{grows-then, grows-proves}
use Rattle.alg_build.proofs.Rewritings.{grows-stands}
use Rattle.alg_fraction_powers.proofs.powers.quotient_power_by.Goals as goal

pub div_pow-requires-clause-first_line : goal.div_pow-requires-clause-first_line
div_pow-requires-clause-first_line c =
    let later = grows-then _ _ _ c.literal.ensures.grows c.relation_of_literals.ensures.grows in
    let all = grows-then _ _ _ c.two_literals.ensures.grows later in
    let m = grows-stands _ _ all _ _ _ c.in_ok-a.ensures.first in
    let p = grows-stands _ _ all _ _ _ c.in_ok-a.ensures.second in
    let n = grows-stands _ _ c.relation_of_literals.ensures.grows _ _ _ c.in_ok-exponent.ensures.stands in
    rw (m.tree, p.tree, n.tree) (grows-proves _ _ _ _ _ (grows-then _ _ _ c.two_wholes.ensures.grows all) c.requires.top)

pub div_pow-requires-clause-second_line : goal.div_pow-requires-clause-second_line
div_pow-requires-clause-second_line c =
    let later = grows-then _ _ _ c.literal.ensures.grows c.relation_of_literals.ensures.grows in
    let all = grows-then _ _ _ c.two_literals.ensures.grows later in
    let d = grows-stands _ _ later _ _ _ c.in_ok-b.ensures.first in
    let q = grows-stands _ _ later _ _ _ c.in_ok-b.ensures.second in
    let n = grows-stands _ _ c.relation_of_literals.ensures.grows _ _ _ c.in_ok-exponent.ensures.stands in
    rw (d.tree, q.tree, n.tree) (grows-proves _ _ _ _ _ (grows-then _ _ _ c.two_wholes.ensures.grows all) c.requires.bottom)

pub returns-clause-turns : goal.returns-clause-turns
returns-clause-turns c =
    let later = grows-then _ _ _ c.literal.ensures.grows c.relation_of_literals.ensures.grows in
    let all = grows-then _ _ _ c.two_literals.ensures.grows later in
    let m = grows-stands _ _ all _ _ _ c.in_ok-a.ensures.first in
    let p = grows-stands _ _ all _ _ _ c.in_ok-a.ensures.second in
    let d = grows-stands _ _ later _ _ _ c.in_ok-b.ensures.first in
    let q = grows-stands _ _ later _ _ _ c.in_ok-b.ensures.second in
    let n = grows-stands _ _ c.relation_of_literals.ensures.grows _ _ _ c.in_ok-exponent.ensures.stands in
    rw (← m.tree, ← p.tree, ← d.tree, ← q.tree, ← n.tree) c.div_pow.ensures.turns

pub returns-clause-grows : goal.returns-clause-grows
returns-clause-grows c =
    let later = grows-then _ _ _ c.literal.ensures.grows c.relation_of_literals.ensures.grows in
    let all = grows-then _ _ _ c.two_literals.ensures.grows later in
    grows-then _ _ _ (grows-then _ _ _ c.two_wholes.ensures.grows all) c.div_pow.ensures.grows
