use Rattle.std.proofs.Common.{[], ◌∷◌, ◌++◌, ap, sym, refl, ◌∙◌}
use Rattle.alg_lex.specs.Items.{fault}
use Rattle.alg_lex.specs.Answer.{seen, item_of}
use Rattle.alg_commands.proofs.Cuts.{NoneBegins-push, further, ends_at_word, ends_at_end}
use Rattle.alg_commands.proofs.pieces.pass.Goals as goal

pub returns-then-begins : goal.returns-then-begins
returns-then-begins c = ends_at_word _ _ _ c.items.invariant.items _ _ _ c.in-Ok.token c.items.invariant.passed c.in-Some.ensures c.in-Ok.is (sym c.begins.ensures ∙ c.if-begins.true) c.items.invariant.none c.items.invariant.keeps

pub items-preserved-in-Continue-branch-2 : goal.items-preserved-in-Continue-branch-2
items-preserved-in-Continue-branch-2 c = record {
  items = c.items.invariant.items ++ seen c.in-Ok.token ∷ [];
  passed = further _ _ c.items.invariant.items _ _ c.items.invariant.passed (c.in-Some.ensures ∙ ap (λ i. item_of i ∷ c.next_item.new.lexer) c.in-Ok.is);
  none = NoneBegins-push _ _ c.items.invariant.none (sym c.begins.ensures ∙ c.if-begins.false);
  keeps = c.in_ok-add_token-in-Ok.ensures _ _ c.items.invariant.keeps;
}

pub items-preserved : goal.items-preserved
items-preserved c = record {
  items = c.items.invariant.items ++ fault c.in-Err.fault ∷ [];
  passed = further _ _ c.items.invariant.items _ _ c.items.invariant.passed (c.in-Some.ensures ∙ ap (λ i. item_of i ∷ c.next_item.new.lexer) c.in-Err.is);
  none = NoneBegins-push _ _ c.items.invariant.none refl;
  keeps = c.add_fault.ensures _ _ c.items.invariant.keeps;
}

pub returns : goal.returns
returns c = ends_at_end _ _ _ c.items.invariant.items _ _ c.items.invariant.passed c.in_default.ensures.0 c.in_default.ensures.1 c.items.invariant.none c.items.invariant.keeps
