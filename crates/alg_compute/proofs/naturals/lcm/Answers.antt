use Rattle.std.proofs.Common.{◌≡◌, ◌<◌, ◌^◌, subst, lit<}
use Rattle.alg_law.specs.Computing.{least_multiple}
use Rattle.alg_compute.proofs.Answering.{same_number}
use Rattle.alg_compute.proofs.Multiples.{multiple_by, no_multiple}
use Rattle.alg_compute.proofs.naturals.lcm.Goals as goal

pub returns-then-common-eq0 : goal.returns-then-common-eq0
returns-then-common-eq0 c =
    let e : 0 ≡ least_multiple c.args.a c.args.b = no_multiple c.args.a c.args.b c.gcd-common.result c.gcd-common.ensures c.if-common-eq0.true in
    (subst (λ n. n < 2 ^ 127) e (lit< tt), e)

pub returns : goal.returns
returns c = same_number c.product.result _ (least_multiple c.args.a c.args.b) (multiple_by c.args.a c.args.b c.gcd-common.result c.gcd-common.ensures) c.product.ensures
