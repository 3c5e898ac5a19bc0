use Rattle.std.proofs.Common.{subst}
use Rattle.alg_certificate_lines.specs.Steps.{GivesLine}
use Rattle.alg_certificate_lines.specs.Texts.{over_relation}
use Rattle.alg_certificate_lines.proofs.numbers.read_relation.Goals as goal

pub returns-in-Some : goal.returns-in-Some
returns-in-Some c = λ new. subst (λ o. GivesLine new (over_relation c.args.base.now o) c.read_related.result) c.in-Some.ensures (c.read_related.ensures new)
