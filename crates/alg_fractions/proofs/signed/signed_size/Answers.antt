use Rattle.std.proofs.Common.{◌≤ℤ◌, ◌<ℤ◌, pos, arith}
use Rattle.std.proofs.lemmas.Int.{ints}
use Rattle.alg_fractions.proofs.FractionLemmas.{back, signed-minus, signed-plus}
use Rattle.alg_fractions.proofs.signed.signed_size.Goals as goal

pub returns-then-n-lt0-clause-stands : goal.returns-then-n-lt0-clause-stands
returns-then-n-lt0-clause-stands c =
    let size = rw (back _ c.num-n.ensures.small) at c.unsigned_abs-m.ensures.value in
    let below : c.num-n.result <ℤ pos 0 = grind (arith, ints, c.if-n-lt0.true) in
    rw (← c.num-n.ensures.number, ← c.den-d.ensures.number, signed-minus c.args.sort c.num-n.result c.unsigned_abs-m.result c.den-d.result size below) c.minus_size.ensures.stands

pub returns-else-n-lt0-clause-stands : goal.returns-else-n-lt0-clause-stands
returns-else-n-lt0-clause-stands c =
    let size = rw (back _ c.num-n.ensures.small) at c.unsigned_abs-m.ensures.value in
    let over : pos 0 ≤ℤ c.num-n.result = grind (arith, ints, c.if-n-lt0.false) in
    rw (← c.num-n.ensures.number, ← c.den-d.ensures.number, signed-plus c.args.sort c.num-n.result c.unsigned_abs-m.result c.den-d.result size over) c.size.ensures.stands
