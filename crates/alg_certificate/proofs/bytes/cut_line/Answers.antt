use Rattle.std.proofs.Common.{◌∙◌, ap, ◌∷◌}
use Rattle.alg_certificate.proofs.Cutting.{passed_more, passed_line, passed_all}
use Rattle.alg_certificate.proofs.bytes.cut_line.Goals as goal

pub returns-then-byte-eq10 : goal.returns-then-byte-eq10
returns-then-byte-eq10 c = passed_line _ _ _ _ _ c.bytes.invariant (c.in-Some.ensures ∙ ap (λ b. b ∷ c.in-Some.rest.now) c.if-byte-eq10.true) c.split_at.ensures.front

pub bytes-preserved : goal.bytes-preserved
bytes-preserved c = passed_more _ _ _ _ _ c.bytes.invariant c.in-Some.ensures c.if-byte-eq10.false

pub returns : goal.returns
returns c = passed_all _ _ _ c.bytes.invariant c.in_default.ensures
