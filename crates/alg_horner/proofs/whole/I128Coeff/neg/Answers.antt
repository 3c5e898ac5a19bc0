use Rattle.std.proofs.Common.{rules, SFits}
use Rattle.std.specs.Int.{w128}
use Rattle.std.proofs.lemmas.Int.{to_z-of_z}
use Rattle.alg_horner.proofs.WholeNumbers.{minus_is, negative_small}
use Rattle.alg_horner.proofs.whole.I128Coeff.neg.Goals as goal

pub negative-requires : goal.negative-requires
negative-requires c =
    let f : SFits w128 c.args.self.now = search rules in
    rw (to_z-of_z w128 c.args.self.now f) (negative_small c.args.self.now c.requires)

pub returns : goal.returns
returns c =
    let f : SFits w128 c.args.self.now = search rules in
    let k : SFits w128 c.negative.result = search rules in
    rw (to_z-of_z w128 c.negative.result k, c.negative.ensures, to_z-of_z w128 c.args.self.now f) (minus_is c.args.self.now)
