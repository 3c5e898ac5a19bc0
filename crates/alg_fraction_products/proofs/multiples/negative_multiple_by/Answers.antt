use Rattle.alg_build.proofs.Lines.{grows-then, grows-proves}
use Rattle.alg_build.proofs.Rewritings.{grows-stands}
use Rattle.alg_numerals.proofs.LiteralLemmas.{own-stands, grows-signs}
use Rattle.alg_numerals.proofs.WholeLemmas.{integer-signs}
use Rattle.alg_fractions.proofs.FractionLemmas.{grows-fraction}
use Rattle.alg_fraction_products.proofs.HavingLemmas.{negative-has}
use Rattle.alg_fraction_products.proofs.multiples.negative_multiple_by.Goals as goal

pub two_fractions-requires-clause-has_first : goal.two_fractions-requires-clause-has_first
two_fractions-requires-clause-has_first c = c.requires.second

pub two_fractions-requires-clause-has_second : goal.two_fractions-requires-clause-has_second
two_fractions-requires-clause-has_second c = rw c.neg.ensures (negative-has _ _ _ c.requires.signs c.requires.second)

pub numeral_of_fraction-requires : goal.numeral_of_fraction-requires
numeral_of_fraction-requires c = record { has = grows-fraction _ _ c.two_fractions.ensures.grows _ _ c.requires.first }

pub literal-requires-clause-literals : goal.literal-requires-clause-literals
literal-requires-clause-literals c = (integer-signs _ (grows-signs _ _ (grows-then _ _ _ c.two_fractions.ensures.grows c.numeral_of_fraction.ensures.grows) _ c.requires.signs).literals.library).literals

pub zsmul_neg_lit-requires-clause-a_stands : goal.zsmul_neg_lit-requires-clause-a_stands
zsmul_neg_lit-requires-clause-a_stands c =
    let b = grows-stands _ _ (grows-then _ _ _ c.numeral_of_fraction.ensures.grows c.literal.ensures.grows) _ _ _ c.in_ok-b.ensures.first in
    let m = grows-stands _ _ (grows-then _ _ _ c.numeral_of_fraction.ensures.grows c.literal.ensures.grows) _ _ _ c.in_ok-b.ensures.second in
    let a = grows-stands _ _ c.literal.ensures.grows _ _ _ c.in_ok-a.ensures.stands in
    let i = c.in_ok-factor.ensures.stands in
    own-stands _ _ _ _ a

pub zsmul_neg_lit-requires-clause-b_stands : goal.zsmul_neg_lit-requires-clause-b_stands
zsmul_neg_lit-requires-clause-b_stands c =
    let b = grows-stands _ _ (grows-then _ _ _ c.numeral_of_fraction.ensures.grows c.literal.ensures.grows) _ _ _ c.in_ok-b.ensures.first in
    let m = grows-stands _ _ (grows-then _ _ _ c.numeral_of_fraction.ensures.grows c.literal.ensures.grows) _ _ _ c.in_ok-b.ensures.second in
    let a = grows-stands _ _ c.literal.ensures.grows _ _ _ c.in_ok-a.ensures.stands in
    let i = c.in_ok-factor.ensures.stands in
    own-stands _ _ _ _ b

pub zsmul_neg_lit-requires-clause-c_stands : goal.zsmul_neg_lit-requires-clause-c_stands
zsmul_neg_lit-requires-clause-c_stands c =
    let b = grows-stands _ _ (grows-then _ _ _ c.numeral_of_fraction.ensures.grows c.literal.ensures.grows) _ _ _ c.in_ok-b.ensures.first in
    let m = grows-stands _ _ (grows-then _ _ _ c.numeral_of_fraction.ensures.grows c.literal.ensures.grows) _ _ _ c.in_ok-b.ensures.second in
    let a = grows-stands _ _ c.literal.ensures.grows _ _ _ c.in_ok-a.ensures.stands in
    let i = c.in_ok-factor.ensures.stands in
    own-stands _ _ _ _ m

pub zsmul_neg_lit-requires-clause-i_stands : goal.zsmul_neg_lit-requires-clause-i_stands
zsmul_neg_lit-requires-clause-i_stands c =
    let b = grows-stands _ _ (grows-then _ _ _ c.numeral_of_fraction.ensures.grows c.literal.ensures.grows) _ _ _ c.in_ok-b.ensures.first in
    let m = grows-stands _ _ (grows-then _ _ _ c.numeral_of_fraction.ensures.grows c.literal.ensures.grows) _ _ _ c.in_ok-b.ensures.second in
    let a = grows-stands _ _ c.literal.ensures.grows _ _ _ c.in_ok-a.ensures.stands in
    let i = c.in_ok-factor.ensures.stands in
    own-stands _ _ _ _ i

pub zsmul_neg_lit-requires-clause-first_line : goal.zsmul_neg_lit-requires-clause-first_line
zsmul_neg_lit-requires-clause-first_line c =
    let b = grows-stands _ _ (grows-then _ _ _ c.numeral_of_fraction.ensures.grows c.literal.ensures.grows) _ _ _ c.in_ok-b.ensures.first in
    let m = grows-stands _ _ (grows-then _ _ _ c.numeral_of_fraction.ensures.grows c.literal.ensures.grows) _ _ _ c.in_ok-b.ensures.second in
    let a = grows-stands _ _ c.literal.ensures.grows _ _ _ c.in_ok-a.ensures.stands in
    let i = c.in_ok-factor.ensures.stands in
    rw (i.tree, a.tree, b.tree) (grows-proves _ _ _ _ _ (grows-then _ _ _ c.two_fractions.ensures.grows (grows-then _ _ _ c.numeral_of_fraction.ensures.grows c.literal.ensures.grows)) c.requires.multiple)

pub zsmul_neg_lit-requires-clause-second_line : goal.zsmul_neg_lit-requires-clause-second_line
zsmul_neg_lit-requires-clause-second_line c =
    let b = grows-stands _ _ (grows-then _ _ _ c.numeral_of_fraction.ensures.grows c.literal.ensures.grows) _ _ _ c.in_ok-b.ensures.first in
    let m = grows-stands _ _ (grows-then _ _ _ c.numeral_of_fraction.ensures.grows c.literal.ensures.grows) _ _ _ c.in_ok-b.ensures.second in
    let a = grows-stands _ _ c.literal.ensures.grows _ _ _ c.in_ok-a.ensures.stands in
    let i = c.in_ok-factor.ensures.stands in
    rw (b.tree, m.tree, c.neg.ensures) (grows-proves _ _ _ _ _ (grows-then _ _ _ c.two_fractions.ensures.grows (grows-then _ _ _ c.numeral_of_fraction.ensures.grows c.literal.ensures.grows)) c.requires.minus)

pub zsmul_neg_lit-requires-clause-add_group : goal.zsmul_neg_lit-requires-clause-add_group
zsmul_neg_lit-requires-clause-add_group c = (grows-signs _ _ (grows-then _ _ _ c.two_fractions.ensures.grows (grows-then _ _ _ c.numeral_of_fraction.ensures.grows c.literal.ensures.grows)) _ c.requires.signs).group

pub zsmul_neg_lit-requires-clause-library : goal.zsmul_neg_lit-requires-clause-library
zsmul_neg_lit-requires-clause-library c = (grows-signs _ _ (grows-then _ _ _ c.two_fractions.ensures.grows (grows-then _ _ _ c.numeral_of_fraction.ensures.grows c.literal.ensures.grows)) _ c.requires.signs).literals.library

pub returns-clause-turns : goal.returns-clause-turns
returns-clause-turns c =
    let b = grows-stands _ _ (grows-then _ _ _ c.numeral_of_fraction.ensures.grows c.literal.ensures.grows) _ _ _ c.in_ok-b.ensures.first in
    let m = grows-stands _ _ (grows-then _ _ _ c.numeral_of_fraction.ensures.grows c.literal.ensures.grows) _ _ _ c.in_ok-b.ensures.second in
    let a = grows-stands _ _ c.literal.ensures.grows _ _ _ c.in_ok-a.ensures.stands in
    let i = c.in_ok-factor.ensures.stands in
    let k = rw c.neg.ensures at m.tree in
    rw (← i.tree, ← a.tree, ← k) c.zsmul_neg_lit.ensures.turns
