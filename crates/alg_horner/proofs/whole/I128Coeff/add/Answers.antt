use Rattle.std.proofs.Common.{rules, SFits}
use Rattle.std.specs.Int.{w128}
use Rattle.std.proofs.lemmas.Int.{to_z-of_z}
use Rattle.alg_horner.proofs.WholeNumbers.{plus_is, sum_small}
use Rattle.alg_horner.proofs.whole.I128Coeff.add.Goals as goal

pub sum-requires : goal.sum-requires
sum-requires c =
    let f : SFits w128 c.args.self.now = search rules in
    let h : SFits w128 c.args.other.now = search rules in
    rw (to_z-of_z w128 c.args.self.now f, to_z-of_z w128 c.args.other.now h) (sum_small c.args.self.now c.args.other.now c.requires)

pub returns : goal.returns
returns c =
    let f : SFits w128 c.args.self.now = search rules in
    let h : SFits w128 c.args.other.now = search rules in
    let k : SFits w128 c.sum.result = search rules in
    rw (to_z-of_z w128 c.sum.result k, c.sum.ensures, to_z-of_z w128 c.args.self.now f, to_z-of_z w128 c.args.other.now h) (plus_is c.args.self.now c.args.other.now)
