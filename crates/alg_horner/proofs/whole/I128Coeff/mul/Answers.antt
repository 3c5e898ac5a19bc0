use Rattle.std.proofs.Common.{rules, SFits}
use Rattle.std.specs.Int.{w128}
use Rattle.std.proofs.lemmas.Int.{to_z-of_z}
use Rattle.alg_horner.proofs.WholeNumbers.{times_is, product_small}
use Rattle.alg_horner.proofs.whole.I128Coeff.mul.Goals as goal

pub product-requires : goal.product-requires
product-requires c =
    let f : SFits w128 c.args.self.now = search rules in
    let h : SFits w128 c.args.other.now = search rules in
    rw (to_z-of_z w128 c.args.self.now f, to_z-of_z w128 c.args.other.now h) (product_small c.args.self.now c.args.other.now c.requires)

pub returns : goal.returns
returns c =
    let f : SFits w128 c.args.self.now = search rules in
    let h : SFits w128 c.args.other.now = search rules in
    let k : SFits w128 c.product.result = search rules in
    rw (to_z-of_z w128 c.product.result k, c.product.ensures, to_z-of_z w128 c.args.self.now f, to_z-of_z w128 c.args.other.now h) (times_is c.args.self.now c.args.other.now)
