use Rattle.std.proofs.Common.{◌<◌, ◌≤ℤ◌, ◌<ℤ◌, pos, arith}
use Rattle.std.proofs.lemmas.Int.{ints}
use Rattle.alg_fractions.proofs.SizeLemmas.{factor-above, factor-within}
use Rattle.alg_fractions.proofs.FractionLemmas.{back, product-within, signed-minus, signed-plus, whole-minus, whole-plus}
use Rattle.alg_fractions.proofs.signed.signed_times.Goals as goal

pub minus_size_times-requires-clause-factor_small : goal.minus_size_times-requires-clause-factor_small
minus_size_times-requires-clause-factor_small c = omega (arith, factor-within c.args.x.denominator c.args.e c.args.l c.den-d.ensures.lowest.positive c.requires.multiplies, c.requires.small)

pub minus_size_times-requires-clause-above : goal.minus_size_times-requires-clause-above
minus_size_times-requires-clause-above c = rw c.den-d.ensures.number c.den-d.ensures.lowest.positive

pub minus_size_times-requires-clause-multiplies : goal.minus_size_times-requires-clause-multiplies
minus_size_times-requires-clause-multiplies c = rw c.den-d.ensures.number c.requires.multiplies

pub minus_size_times-requires-clause-product_small : goal.minus_size_times-requires-clause-product_small
minus_size_times-requires-clause-product_small c =
    let size = rw (back _ c.num-n.ensures.small) at c.unsigned_abs-m.ensures.value in
    product-within c.num-n.result c.unsigned_abs-m.result c.args.e size (rw c.num-n.ensures.number c.requires.product_small)

pub size_times-requires-clause-factor_small : goal.size_times-requires-clause-factor_small
size_times-requires-clause-factor_small c = omega (arith, factor-within c.args.x.denominator c.args.e c.args.l c.den-d.ensures.lowest.positive c.requires.multiplies, c.requires.small)

pub size_times-requires-clause-above : goal.size_times-requires-clause-above
size_times-requires-clause-above c = rw c.den-d.ensures.number c.den-d.ensures.lowest.positive

pub size_times-requires-clause-multiplies : goal.size_times-requires-clause-multiplies
size_times-requires-clause-multiplies c = rw c.den-d.ensures.number c.requires.multiplies

pub size_times-requires-clause-product_small : goal.size_times-requires-clause-product_small
size_times-requires-clause-product_small c =
    let size = rw (back _ c.num-n.ensures.small) at c.unsigned_abs-m.ensures.value in
    product-within c.num-n.result c.unsigned_abs-m.result c.args.e size (rw c.num-n.ensures.number c.requires.product_small)

pub returns-then-n-lt0-clause-turns : goal.returns-then-n-lt0-clause-turns
returns-then-n-lt0-clause-turns c =
    let size = rw (back _ c.num-n.ensures.small) at c.unsigned_abs-m.ensures.value in
    let below : c.num-n.result <ℤ pos 0 = grind (arith, ints, c.if-n-lt0.true) in
    let some : 0 < c.args.e = factor-above c.args.x.denominator c.args.e c.args.l c.requires.multiplies c.requires.above in
    rw (← c.num-n.ensures.number, ← c.den-d.ensures.number, signed-minus c.args.sort c.num-n.result c.unsigned_abs-m.result c.den-d.result size below, whole-minus c.args.sort c.num-n.result c.unsigned_abs-m.result c.args.e size below some) c.minus_size_times.ensures.turns

pub returns-else-n-lt0-clause-turns : goal.returns-else-n-lt0-clause-turns
returns-else-n-lt0-clause-turns c =
    let size = rw (back _ c.num-n.ensures.small) at c.unsigned_abs-m.ensures.value in
    let over : pos 0 ≤ℤ c.num-n.result = grind (arith, ints, c.if-n-lt0.false) in
    rw (← c.num-n.ensures.number, ← c.den-d.ensures.number, signed-plus c.args.sort c.num-n.result c.unsigned_abs-m.result c.den-d.result size over, whole-plus c.args.sort c.num-n.result c.unsigned_abs-m.result c.args.e size over) c.size_times.ensures.turns
