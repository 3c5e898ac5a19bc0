use Rattle.std.proofs.Common.{arith}
use Rattle.alg_build.proofs.Lines.{grows-proves, grows-then}
use Rattle.alg_numerals.proofs.WholeLemmas.{grows-whole}
use Rattle.alg_powers.proofs.PowerLemmas.{lesser-power, power-whole, next-power}
use Rattle.alg_powers.proofs.powers.next_to.Goals as goal

pub whole_product-requires-clause-first : goal.whole_product-requires-clause-first
whole_product-requires-clause-first c = rw c.requires.lesser.value (power-whole _ _ _ _ (grows-whole _ _ _ _ c.line_of.ensures.grows c.requires.first))

pub whole_product-requires-clause-first_small : goal.whole_product-requires-clause-first_small
whole_product-requires-clause-first_small c = rw c.requires.lesser.value (lesser-power c.args.x.now c.args.m c.args.n (omega (arith, c.requires.sums)) c.requires.small)

pub whole_product-requires-clause-total : goal.whole_product-requires-clause-total
whole_product-requires-clause-total c = rw c.requires.product (power-whole _ _ _ _ (grows-whole _ _ _ _ c.line_of.ensures.grows c.requires.first))

pub whole_product-requires-clause-multiplies : goal.whole_product-requires-clause-multiplies
whole_product-requires-clause-multiplies c = rw (c.requires.lesser.value, c.requires.product) (next-power c.args.x.now c.args.m c.args.n c.requires.sums)

pub whole_product-requires-clause-small : goal.whole_product-requires-clause-small
whole_product-requires-clause-small c = rw c.requires.product c.requires.small

pub next_by-requires-clause-first : goal.next_by-requires-clause-first
next_by-requires-clause-first c = grows-whole _ _ _ _ (grows-then _ _ _ c.line_of.ensures.grows c.whole_product.ensures.grows) c.requires.first

pub next_by-requires-clause-lesser : goal.next_by-requires-clause-lesser
next_by-requires-clause-lesser c = grows-proves _ _ _ _ _ c.whole_product.ensures.grows (c.in_ok-line.ensures.proves _ _ _ c.requires.lesser.turns)

pub next_by-requires-clause-multiplies : goal.next_by-requires-clause-multiplies
next_by-requires-clause-multiplies c = rw (← c.requires.lesser.value, ← c.requires.product) c.in_ok-product.ensures.combines

pub returns-clause-turns : goal.returns-clause-turns
returns-clause-turns c = rw c.requires.product c.next_by.ensures.turns

pub returns-clause-grows : goal.returns-clause-grows
returns-clause-grows c = grows-then _ _ _ (grows-then _ _ _ c.line_of.ensures.grows c.whole_product.ensures.grows) c.next_by.ensures.grows
