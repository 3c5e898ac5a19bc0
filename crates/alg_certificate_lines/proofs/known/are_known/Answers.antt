use Rattle.std.proofs.Common.{rules, sym, ◌∙◌}
use Rattle.alg_certificate.proofs.TokenLaws.{shorter}
use Rattle.alg_certificate.proofs.LexingLaws.{token_sound}
use Rattle.alg_certificate_lines.proofs.KnownLaws.{known_over, known_stop, known_on}
use Rattle.alg_certificate_lines.proofs.known.are_known.Goals as goal

pub tokens-smaller : goal.tokens-smaller
tokens-smaller c = shorter _ _ _ (token_sound _ _ _ (sym c.in-Some.ensures))

pub returns-then-not-is_known : goal.returns-then-not-is_known
returns-then-not-is_known c = sym (known_stop _ _ _ _ _ c.tokens.invariant (sym c.in-Some.ensures) (search rules))

pub tokens-preserved : goal.tokens-preserved
tokens-preserved c = known_on _ _ _ _ _ c.tokens.invariant (sym c.in-Some.ensures) (search rules)

pub returns : goal.returns
returns c = sym (c.tokens.invariant ∙ known_over _ _ (sym c.in_default.ensures))
