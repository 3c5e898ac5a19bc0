use Rattle.std.proofs.Common.{◌≡◌, pos, neg_ℤ, ◌-ℤ◌, arith, to_z, of_z}
use Rattle.std.specs.Int.{w128}
use Rattle.std.proofs.lemmas.Int.{ints}
use Rattle.alg_num.proofs.Reductions.{cast_back}
use Rattle.alg_num.proofs.WholeNumbers.{negative_value, InRange-neg_ℤ}
use Rattle.alg_num.proofs.fractions.Frac.neg.Goals as goal

pub invariant_of-result : goal.invariant_of-result
invariant_of-result c =
    let back : to_z w128 (of_z w128 c.self.inside.num) ≡ c.self.inside.num = cast_back c.self.inside.num c.self.invariant.small.top in
    let turned : pos 0 -ℤ c.self.inside.num ≡ neg_ℤ c.self.inside.num = omega (arith, ints) in
    rw (back, turned, cast_back (neg_ℤ c.self.inside.num) (InRange-neg_ℤ c.self.inside.num c.self.invariant.small.top))
    (negative_value c.self.inside.num c.self.inside.den c.self.invariant)
