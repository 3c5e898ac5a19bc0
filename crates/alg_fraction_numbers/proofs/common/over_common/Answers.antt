use Rattle.std.proofs.Common.{arith, refl}
use Rattle.alg_num.specs.Range.{InRange}
use Rattle.alg_fraction_numbers.proofs.CommonLemmas.{back, divisor-above, multiple-fits, left-fits, right-fits, total-fits, made-common}
use Rattle.alg_fraction_numbers.proofs.common.over_common.Goals as goal

pub nonzero_div-first : goal.nonzero_div-first
nonzero_div-first c = divisor-above c.args.x.now c.args.y.now c.args.z.now _ _ _ _ _ c.den-a.ensures.number c.den-b.ensures.number refl refl c.den-a.ensures.lowest c.den-b.ensures.lowest c.gcd-divisor.ensures c.requires.adds c.requires.small

pub nonzero_div-second : goal.nonzero_div-second
nonzero_div-second c = divisor-above c.args.x.now c.args.y.now c.args.z.now _ _ _ _ _ c.den-a.ensures.number c.den-b.ensures.number refl refl c.den-a.ensures.lowest c.den-b.ensures.lowest c.gcd-divisor.ensures c.requires.adds c.requires.small

pub overflow_mul-multiple : goal.overflow_mul-multiple
overflow_mul-multiple c = omega (arith, multiple-fits c.args.x.now c.args.y.now c.args.z.now _ _ _ _ _ c.den-a.ensures.number c.den-b.ensures.number refl refl c.den-a.ensures.lowest c.den-b.ensures.lowest c.gcd-divisor.ensures c.requires.adds c.requires.small)

pub scaled-left-requires-clause-fits : goal.scaled-left-requires-clause-fits
scaled-left-requires-clause-fits c = rw (back _ c.num-m.ensures.small) (left-fits c.args.x.now c.args.y.now c.args.z.now _ _ _ _ _ c.den-a.ensures.number c.den-b.ensures.number c.num-m.ensures.number c.num-n.ensures.number c.den-a.ensures.lowest c.den-b.ensures.lowest c.gcd-divisor.ensures c.requires.adds c.requires.small)

pub scaled-right-requires-clause-fits : goal.scaled-right-requires-clause-fits
scaled-right-requires-clause-fits c = rw (back _ c.num-n.ensures.small) (right-fits c.args.x.now c.args.y.now c.args.z.now _ _ _ _ _ c.den-a.ensures.number c.den-b.ensures.number c.num-m.ensures.number c.num-n.ensures.number c.den-a.ensures.lowest c.den-b.ensures.lowest c.gcd-divisor.ensures c.requires.adds c.requires.small)

pub added-total-requires : goal.added-total-requires
added-total-requires c =
    let l = rw (back _ c.num-m.ensures.small) at c.scaled-left.ensures in
    let r = rw (back _ c.num-n.ensures.small) at c.scaled-right.ensures in
    let left : InRange c.scaled-left.result = rw l (left-fits c.args.x.now c.args.y.now c.args.z.now _ _ _ _ _ c.den-a.ensures.number c.den-b.ensures.number c.num-m.ensures.number c.num-n.ensures.number c.den-a.ensures.lowest c.den-b.ensures.lowest c.gcd-divisor.ensures c.requires.adds c.requires.small) in
    let right : InRange c.scaled-right.result = rw r (right-fits c.args.x.now c.args.y.now c.args.z.now _ _ _ _ _ c.den-a.ensures.number c.den-b.ensures.number c.num-m.ensures.number c.num-n.ensures.number c.den-a.ensures.lowest c.den-b.ensures.lowest c.gcd-divisor.ensures c.requires.adds c.requires.small) in
    rw (back _ left, back _ right) (total-fits c.args.x.now c.args.y.now c.args.z.now _ _ _ _ _ c.den-a.ensures.number c.den-b.ensures.number c.num-m.ensures.number c.num-n.ensures.number c.den-a.ensures.lowest c.den-b.ensures.lowest c.gcd-divisor.ensures c.requires.adds c.requires.small _ _ l r)

pub returns : goal.returns
returns c =
    let l = rw (back _ c.num-m.ensures.small) at c.scaled-left.ensures in
    let r = rw (back _ c.num-n.ensures.small) at c.scaled-right.ensures in
    let left : InRange c.scaled-left.result = rw l (left-fits c.args.x.now c.args.y.now c.args.z.now _ _ _ _ _ c.den-a.ensures.number c.den-b.ensures.number c.num-m.ensures.number c.num-n.ensures.number c.den-a.ensures.lowest c.den-b.ensures.lowest c.gcd-divisor.ensures c.requires.adds c.requires.small) in
    let right : InRange c.scaled-right.result = rw r (right-fits c.args.x.now c.args.y.now c.args.z.now _ _ _ _ _ c.den-a.ensures.number c.den-b.ensures.number c.num-m.ensures.number c.num-n.ensures.number c.den-a.ensures.lowest c.den-b.ensures.lowest c.gcd-divisor.ensures c.requires.adds c.requires.small) in
    let t = rw (back _ left, back _ right) at c.added-total.ensures in
    let total : InRange c.added-total.result = rw t (total-fits c.args.x.now c.args.y.now c.args.z.now _ _ _ _ _ c.den-a.ensures.number c.den-b.ensures.number c.num-m.ensures.number c.num-n.ensures.number c.den-a.ensures.lowest c.den-b.ensures.lowest c.gcd-divisor.ensures c.requires.adds c.requires.small _ _ l r) in
    rw (back _ left, back _ right, back _ total)
    (made-common c.args.x.now c.args.y.now c.args.z.now _ _ _ _ _ c.den-a.ensures.number c.den-b.ensures.number c.num-m.ensures.number c.num-n.ensures.number c.den-a.ensures.lowest c.den-b.ensures.lowest c.gcd-divisor.ensures c.requires.adds c.requires.small _ _ _ _ c.den.ensures.number l r t)
