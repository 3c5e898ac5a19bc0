use Rattle.std.proofs.Common.{sym, ◌∙◌}
use Rattle.alg_certificate.proofs.Walking.{at_over, at_fail, at_move}
use Rattle.alg_certificate.proofs.TokenLaws.{shorter}
use Rattle.alg_certificate.proofs.LexingLaws.{token_sound}
use Rattle.alg_certificate.proofs.walks.allows.Goals as goal

pub returns-in_default-moved : goal.returns-in_default-moved
returns-in_default-moved c = sym (at_fail _ _ _ _ _ _ _ _ c.tokens.invariant (sym c.in-Some.ensures) (sym c.in_default-moved.ensures))

pub tokens-smaller : goal.tokens-smaller
tokens-smaller c = shorter _ _ _ (token_sound _ _ _ (sym c.in-Some.ensures))

pub tokens-preserved : goal.tokens-preserved
tokens-preserved c = at_move _ _ _ _ _ _ _ _ _ _ _ c.tokens.invariant (sym c.in-Some.ensures) (sym c.in-Some-moved.ensures)

pub returns : goal.returns
returns c = c.is_over.ensures ∙ sym (at_over _ _ _ _ _ _ c.tokens.invariant (sym c.in_default.ensures))
