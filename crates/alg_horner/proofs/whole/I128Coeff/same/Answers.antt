use Rattle.std.proofs.Common.{rules, ◌≡◌, ap, SFits}
use Rattle.std.specs.Prelude.{◌↔◌, IsTrue}
use Rattle.std.specs.Int.{w128}
use Rattle.std.proofs.lemmas.Int.{to_z-of_z}
use Rattle.alg_sums.specs.RatioRing.{whole_number}
use Rattle.alg_horner.proofs.WholeNumbers.{number_is}
use Rattle.alg_horner.proofs.whole.I128Coeff.same.Goals as goal

pub returns : goal.returns
returns c =
    let f : SFits w128 c.args.self.now = search rules in
    let h : SFits w128 c.args.other.now = search rules in
    let e : IsTrue c.equal.result ↔ (c.args.self.now ≡ c.args.other.now) = rw (to_z-of_z w128 c.args.self.now f, to_z-of_z w128 c.args.other.now h) at c.equal.ensures in
    (λ t. ap whole_number (e.0 t), λ q. e.1 (number_is c.args.self.now c.args.other.now q))
