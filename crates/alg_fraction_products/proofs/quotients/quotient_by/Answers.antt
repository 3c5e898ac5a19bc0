use Rattle.alg_build.proofs.Lines.{grows-then, grows-proves}
use Rattle.alg_build.proofs.Rewritings.{grows-stands}
use Rattle.alg_numerals.proofs.LiteralLemmas.{own-stands}
use Rattle.alg_fractions.proofs.SizeLemmas.{grows-quotients}
use Rattle.alg_fractions.proofs.FractionLemmas.{quotients-fraction}
use Rattle.alg_fraction_products.proofs.quotients.quotient_by.Goals as goal

pub two_fractions-requires-clause-has_first : goal.two_fractions-requires-clause-has_first
two_fractions-requires-clause-has_first c = quotients-fraction _ _ _ c.requires.quotients

pub two_fractions-requires-clause-has_second : goal.two_fractions-requires-clause-has_second
two_fractions-requires-clause-has_second c = quotients-fraction _ _ _ c.requires.quotients

pub two_fractions-requires-2-clause-has_first : goal.two_fractions-requires-2-clause-has_first
two_fractions-requires-2-clause-has_first c = quotients-fraction _ _ _ (grows-quotients _ _ c.two_fractions.ensures.grows _ c.requires.quotients)

pub two_fractions-requires-2-clause-has_second : goal.two_fractions-requires-2-clause-has_second
two_fractions-requires-2-clause-has_second c = quotients-fraction _ _ _ (grows-quotients _ _ c.two_fractions.ensures.grows _ c.requires.quotients)

pub div_of_inv-requires-clause-a_stands : goal.div_of_inv-requires-clause-a_stands
div_of_inv-requires-clause-a_stands c =
    let a = grows-stands _ _ c.two_fractions-2.ensures.grows _ _ _ c.in_ok-a.ensures.first in
    let b = grows-stands _ _ c.two_fractions-2.ensures.grows _ _ _ c.in_ok-a.ensures.second in
    let z = c.in_ok-c.ensures.first in
    let w = c.in_ok-c.ensures.second in
    own-stands _ _ _ _ a

pub div_of_inv-requires-clause-b_stands : goal.div_of_inv-requires-clause-b_stands
div_of_inv-requires-clause-b_stands c =
    let a = grows-stands _ _ c.two_fractions-2.ensures.grows _ _ _ c.in_ok-a.ensures.first in
    let b = grows-stands _ _ c.two_fractions-2.ensures.grows _ _ _ c.in_ok-a.ensures.second in
    let z = c.in_ok-c.ensures.first in
    let w = c.in_ok-c.ensures.second in
    own-stands _ _ _ _ b

pub div_of_inv-requires-clause-c_stands : goal.div_of_inv-requires-clause-c_stands
div_of_inv-requires-clause-c_stands c =
    let a = grows-stands _ _ c.two_fractions-2.ensures.grows _ _ _ c.in_ok-a.ensures.first in
    let b = grows-stands _ _ c.two_fractions-2.ensures.grows _ _ _ c.in_ok-a.ensures.second in
    let z = c.in_ok-c.ensures.first in
    let w = c.in_ok-c.ensures.second in
    own-stands _ _ _ _ z

pub div_of_inv-requires-clause-d_stands : goal.div_of_inv-requires-clause-d_stands
div_of_inv-requires-clause-d_stands c =
    let a = grows-stands _ _ c.two_fractions-2.ensures.grows _ _ _ c.in_ok-a.ensures.first in
    let b = grows-stands _ _ c.two_fractions-2.ensures.grows _ _ _ c.in_ok-a.ensures.second in
    let z = c.in_ok-c.ensures.first in
    let w = c.in_ok-c.ensures.second in
    own-stands _ _ _ _ w

pub div_of_inv-requires-clause-first_line : goal.div_of_inv-requires-clause-first_line
div_of_inv-requires-clause-first_line c =
    let a = grows-stands _ _ c.two_fractions-2.ensures.grows _ _ _ c.in_ok-a.ensures.first in
    let b = grows-stands _ _ c.two_fractions-2.ensures.grows _ _ _ c.in_ok-a.ensures.second in
    let z = c.in_ok-c.ensures.first in
    let w = c.in_ok-c.ensures.second in
    rw (b.tree, w.tree) (grows-proves _ _ _ _ _ (grows-then _ _ _ c.two_fractions.ensures.grows c.two_fractions-2.ensures.grows) c.requires.inverts)

pub div_of_inv-requires-clause-second_line : goal.div_of_inv-requires-clause-second_line
div_of_inv-requires-clause-second_line c =
    let a = grows-stands _ _ c.two_fractions-2.ensures.grows _ _ _ c.in_ok-a.ensures.first in
    let b = grows-stands _ _ c.two_fractions-2.ensures.grows _ _ _ c.in_ok-a.ensures.second in
    let z = c.in_ok-c.ensures.first in
    let w = c.in_ok-c.ensures.second in
    rw (a.tree, w.tree, z.tree) (grows-proves _ _ _ _ _ (grows-then _ _ _ c.two_fractions.ensures.grows c.two_fractions-2.ensures.grows) c.requires.multiplies)

pub returns-clause-turns : goal.returns-clause-turns
returns-clause-turns c =
    let a = grows-stands _ _ c.two_fractions-2.ensures.grows _ _ _ c.in_ok-a.ensures.first in
    let b = grows-stands _ _ c.two_fractions-2.ensures.grows _ _ _ c.in_ok-a.ensures.second in
    let z = c.in_ok-c.ensures.first in
    let w = c.in_ok-c.ensures.second in
    rw (← a.tree, ← b.tree, ← z.tree) c.div_of_inv.ensures.turns
