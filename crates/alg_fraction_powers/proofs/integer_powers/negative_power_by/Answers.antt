use Rattle.alg_build.proofs.Lines.{grows-then, grows-proves}
use Rattle.alg_build.proofs.Rewritings.{grows-stands}
use Rattle.alg_fraction_powers.proofs.integer_powers.negative_power_by.Goals as goal

pub zpow_neg_lit0-requires-clause-first_line : goal.zpow_neg_lit0-requires-clause-first_line
zpow_neg_lit0-requires-clause-first_line c =
    let later = grows-then _ _ _ c.signed_size.ensures.grows c.literal.ensures.grows in
    let g = grows-then _ _ _ c.two_fractions.ensures.grows later in
    let a = grows-stands _ _ c.literal.ensures.grows _ _ _ c.in_ok-a.ensures.stands in
    let b = grows-stands _ _ later _ _ _ c.in_ok-b.ensures.first in
    rw (a.tree, b.tree, c.in_ok-exponent.ensures.stands.tree) (grows-proves _ _ _ _ _ g c.requires.power)

pub zpow_neg_lit0-requires-clause-second_line : goal.zpow_neg_lit0-requires-clause-second_line
zpow_neg_lit0-requires-clause-second_line c =
    let later = grows-then _ _ _ c.signed_size.ensures.grows c.literal.ensures.grows in
    let g = grows-then _ _ _ c.two_fractions.ensures.grows later in
    let b = grows-stands _ _ later _ _ _ c.in_ok-b.ensures.first in
    let d = grows-stands _ _ later _ _ _ c.in_ok-b.ensures.second in
    rw (b.tree, d.tree) (grows-proves _ _ _ _ _ g c.requires.inverse)

pub returns-clause-turns : goal.returns-clause-turns
returns-clause-turns c =
    let later = grows-then _ _ _ c.signed_size.ensures.grows c.literal.ensures.grows in
    let a = grows-stands _ _ c.literal.ensures.grows _ _ _ c.in_ok-a.ensures.stands in
    let d = grows-stands _ _ later _ _ _ c.in_ok-b.ensures.second in
    rw (← a.tree, ← d.tree, ← c.in_ok-exponent.ensures.stands.tree) c.zpow_neg_lit0.ensures.turns

pub returns-clause-grows : goal.returns-clause-grows
returns-clause-grows c = grows-then _ _ _ (grows-then _ _ _ c.two_fractions.ensures.grows (grows-then _ _ _ c.signed_size.ensures.grows c.literal.ensures.grows)) c.zpow_neg_lit0.ensures.grows
