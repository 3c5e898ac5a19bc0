use Rattle.alg_ring_range.proofs.TopLaws.{left_scale-by, right_scale-by, no_zero}
use Rattle.alg_ring_range.proofs.sizes.scales.Goals as goal

pub returns-then-common-eq0-clause-left : goal.returns-then-common-eq0-clause-left
returns-then-common-eq0-clause-left c = λ h i. absurd (no_zero c.args.a c.args.b c.gcd-common.result c.gcd-common.ensures c.if-common-eq0.true i)

pub returns-then-common-eq0-clause-right : goal.returns-then-common-eq0-clause-right
returns-then-common-eq0-clause-right c = λ h i. absurd (no_zero c.args.a c.args.b c.gcd-common.result c.gcd-common.ensures c.if-common-eq0.true i)

pub returns-clause-left : goal.returns-clause-left
returns-clause-left c = left_scale-by c.args.a c.args.b c.gcd-common.result c.gcd-common.ensures

pub returns-clause-right : goal.returns-clause-right
returns-clause-right c = right_scale-by c.args.a c.args.b c.gcd-common.result c.gcd-common.ensures
