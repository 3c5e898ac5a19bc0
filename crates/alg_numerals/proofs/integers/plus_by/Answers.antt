use Rattle.std.proofs.Common.{◌<◌, ◌<ℤ◌, pos, arith}
use Rattle.std.specs.Int.{w128}
use Rattle.std.proofs.lemmas.Int.{ints, to_z-of_z, fits_signed_from_abs}
use Rattle.alg_numerals.proofs.SignTrees.{size-tree, minus-tree, mixed-tree}
use Rattle.alg_numerals.proofs.integers.plus_by.Goals as goal

pub returns-else-m-eq0-clause-turns : goal.returns-else-m-eq0-clause-turns
returns-else-m-eq0-clause-turns c =
    let back = to_z-of_z w128 c.args.y.now (fits_signed_from_abs w128 c.args.y.now c.requires.second_small) in
    let m = rw (to_z-of_z w128 c.args.x.now (fits_signed_from_abs w128 c.args.x.now c.requires.first_small)) at c.unsigned_abs-m.ensures.value in
    let n = rw back at c.unsigned_abs-n.ensures.value in
    let h = rw back at c.if-y-ge0.false in
    let below : c.args.y.now <ℤ pos 0 = grind (arith, ints, h) in
    let some : 0 < c.unsigned_abs-m.result = omega (arith, c.if-m-eq0.false) in
    rw (mixed-tree c.args.sort c.args.x.now c.args.y.now _ _ m n c.requires.at_least below some, size-tree c.args.sort c.args.x.now _ m c.requires.at_least, minus-tree c.args.sort c.args.y.now _ n below) c.times_minus.ensures.turns
