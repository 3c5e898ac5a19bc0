use Rattle.std.proofs.Common.{◌≤ℤ◌, ◌<ℤ◌, ◌<◌, pos, arith}
use Rattle.std.specs.Prelude.{unsigned_abs}
use Rattle.std.proofs.lemmas.Int.{ints}
use Rattle.alg_fractions.proofs.FractionLemmas.{back, negated-minus, negated-plus, signed-minus, signed-plus}
use Rattle.alg_fractions.proofs.signed.negation_of_signed.Goals as goal

pub returns-then-n-lt0-clause-turns : goal.returns-then-n-lt0-clause-turns
returns-then-n-lt0-clause-turns c =
    let size = rw (back _ c.num-n.ensures.small) at c.unsigned_abs-m.ensures.value in
    let below : c.num-n.result <ℤ pos 0 = grind (arith, ints, c.if-n-lt0.true) in
    rw (← c.num-n.ensures.number, ← c.den-d.ensures.number, negated-minus c.args.sort c.num-n.result c.unsigned_abs-m.result c.den-d.result size below, signed-minus c.args.sort c.num-n.result c.unsigned_abs-m.result c.den-d.result size below) c.minus_minus_size.ensures.turns

pub returns-else-n-lt0-clause-turns : goal.returns-else-n-lt0-clause-turns
returns-else-n-lt0-clause-turns c =
    let size = rw (back _ c.num-n.ensures.small) at c.unsigned_abs-m.ensures.value in
    let over : pos 0 ≤ℤ c.num-n.result = grind (arith, ints, c.if-n-lt0.false) in
    let some : 0 < unsigned_abs c.num-n.result = rw c.num-n.ensures.number c.requires.some in
    rw (← c.num-n.ensures.number, ← c.den-d.ensures.number, negated-plus c.args.sort c.num-n.result c.unsigned_abs-m.result c.den-d.result size over some, signed-plus c.args.sort c.num-n.result c.unsigned_abs-m.result c.den-d.result size over) c.minus_size_stays.ensures.turns
