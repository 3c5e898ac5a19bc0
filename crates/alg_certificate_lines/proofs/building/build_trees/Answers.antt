use Rattle.std.proofs.Common.{◌≡◌, sym, subst, All, Some, []}
use Rattle.alg_expr.specs.Ids.{IsIn, trees_at}
use Rattle.alg_certificate.specs.Lexed.{tokens}
use Rattle.alg_certificate_lines.specs.Steps.{all_good}
use Rattle.alg_certificate_lines.specs.Taking.{all_taken}
use Rattle.alg_certificate.proofs.TokenLaws.{shorter}
use Rattle.alg_certificate.proofs.LexingLaws.{token_sound}
use Rattle.alg_certificate_lines.proofs.LoopLaws.{taken_next, taken_over, taken_fault}
use Rattle.alg_certificate_lines.proofs.building.build_trees.Goals as goal

pub tokens-smaller : goal.tokens-smaller
tokens-smaller c = shorter _ _ _ (token_sound _ _ _ (sym c.in-Some.ensures))

pub take_token-requires-clause-good : goal.take_token-requires-clause-good
take_token-requires-clause-good c = (token_sound _ _ _ (sym c.in-Some.ensures)).good

pub returns-in-Err-clause-makes : goal.returns-in-Err-clause-makes
returns-in-Err-clause-makes c = taken_fault _ _ _ _ _ _ _ _ _ _ _ _ _ _ c.tokens.invariant.taken (sym c.in-Some.ensures) c.in-Err.is c.take_token.ensures.takes

pub tokens-preserved : goal.tokens-preserved
tokens-preserved c = record {
  taken = taken_next _ _ _ _ _ _ _ _ _ _ _ _ _ _ c.tokens.invariant.taken (sym c.in-Some.ensures) c.take_token.ensures.keeps c.in-Ok.is c.take_token.ensures.takes;
  flag = c.in-Ok.ensures.flag;
}

pub returns-clause-makes : goal.returns-clause-makes
returns-clause-makes c =
    let ds = c.args.base.now in
    let new = c.tokens.arena in
    subst (λ es. All (IsIn new) es × (all_taken ds (tokens c.args.text.now).0 [] [] ≡ Some (trees_at new es)) × (c.tokens.classed ≡ all_good ds (trees_at new es))) (sym c.of.ensures)
    (c.tokens.invariant.taken.inside, taken_over ds _ _ c.args.text.now _ _ _ c.tokens.invariant.taken (sym c.in_default.ensures), c.tokens.invariant.flag)
