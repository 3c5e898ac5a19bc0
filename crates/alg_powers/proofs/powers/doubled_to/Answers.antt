use Rattle.std.proofs.Common.{arith}
use Rattle.alg_build.proofs.Lines.{grows-proves, grows-then}
use Rattle.alg_numerals.proofs.WholeLemmas.{grows-whole}
use Rattle.alg_powers.proofs.PowerLemmas.{lesser-power, power-whole, square-power}
use Rattle.alg_powers.proofs.powers.doubled_to.Goals as goal

pub whole_product-requires-clause-first : goal.whole_product-requires-clause-first
whole_product-requires-clause-first c = rw c.requires.half.value (power-whole _ _ _ _ (grows-whole _ _ _ _ c.line_of.ensures.grows c.requires.first))

pub whole_product-requires-clause-first_small : goal.whole_product-requires-clause-first_small
whole_product-requires-clause-first_small c = rw c.requires.half.value (lesser-power c.args.x.now c.args.m c.args.n (omega (arith, c.requires.sums)) c.requires.small)

pub whole_product-requires-clause-second : goal.whole_product-requires-clause-second
whole_product-requires-clause-second c = rw c.requires.half.value (power-whole _ _ _ _ (grows-whole _ _ _ _ c.line_of.ensures.grows c.requires.first))

pub whole_product-requires-clause-second_small : goal.whole_product-requires-clause-second_small
whole_product-requires-clause-second_small c = rw c.requires.half.value (lesser-power c.args.x.now c.args.m c.args.n (omega (arith, c.requires.sums)) c.requires.small)

pub whole_product-requires-clause-total : goal.whole_product-requires-clause-total
whole_product-requires-clause-total c = rw c.requires.square (power-whole _ _ _ _ (grows-whole _ _ _ _ c.line_of.ensures.grows c.requires.first))

pub whole_product-requires-clause-multiplies : goal.whole_product-requires-clause-multiplies
whole_product-requires-clause-multiplies c = rw (c.requires.half.value, c.requires.square) (square-power c.args.x.now c.args.m c.args.n c.requires.sums)

pub whole_product-requires-clause-small : goal.whole_product-requires-clause-small
whole_product-requires-clause-small c = rw c.requires.square c.requires.small

pub double_by-requires-clause-first : goal.double_by-requires-clause-first
double_by-requires-clause-first c = grows-whole _ _ _ _ (grows-then _ _ _ c.line_of.ensures.grows c.whole_product.ensures.grows) c.requires.first

pub double_by-requires-clause-half : goal.double_by-requires-clause-half
double_by-requires-clause-half c = grows-proves _ _ _ _ _ c.whole_product.ensures.grows (c.in_ok-line.ensures.proves _ _ _ c.requires.half.turns)

pub double_by-requires-clause-squares : goal.double_by-requires-clause-squares
double_by-requires-clause-squares c = rw (← c.requires.half.value, ← c.requires.square) c.in_ok-square.ensures.combines

pub returns-clause-turns : goal.returns-clause-turns
returns-clause-turns c = rw c.requires.square c.double_by.ensures.turns

pub returns-clause-grows : goal.returns-clause-grows
returns-clause-grows c = grows-then _ _ _ (grows-then _ _ _ c.line_of.ensures.grows c.whole_product.ensures.grows) c.double_by.ensures.grows
