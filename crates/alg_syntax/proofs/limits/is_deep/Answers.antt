use Rattle.std.proofs.Common.{◌≡◌, ℕ, ◌<◌, List, [], ◌∷◌, true, ◌||◌, sym, ap, ◌∙◌}
use Rattle.std.proofs.lemmas.Bool.{lt-ltb}
use Rattle.alg_syntax.specs.declared.signs.Sign.{Sign}
use Rattle.alg_syntax.specs.Limits.{depth_after, is_deep}
use Rattle.alg_syntax.proofs.limits.is_deep.Goals as goal

deep_now : (d : ℕ) (ts : List Sign) → 256 < d → is_deep d ts ≡ true
deep_now d [] h = lt-ltb 256 d h
deep_now d (t ∷ ts) h = ap (λ b. b || is_deep (depth_after d t) ts) (lt-ltb 256 d h)

pub returns-then-depth-gt256 : goal.returns-then-depth-gt256
returns-then-depth-gt256 c = sym (c.tokens.invariant ∙ deep_now c.tokens.depth c.tokens.left c.if-depth-gt256.true)
