use Rattle.std.proofs.Common.{arith, ap, sym, ◌∙◌}
use Rattle.alg_expr.specs.Ids.{tree_of}
use Rattle.alg_group_words.specs.Syllables.{joined}
use Rattle.alg_group_found.proofs.ReachLemmas.{count-within, joined-counted, joined-long, joined-room, product-joined}
use Rattle.alg_group_found.proofs.words.product.Goals as goal

pub returns-then-are_long-clause-reached : goal.returns-then-are_long-clause-reached
returns-then-are_long-clause-reached c = joined-long _ _ _ _ (product-joined _ _ _ _) _ c.requires.letters _ _ _ _ c.requires.left c.requires.right (sym c.are_long.ensures ∙ c.if-are_long.true)

pub spell_product-requires-clause-left : goal.spell_product-requires-clause-left
spell_product-requires-clause-left c = c.requires.left.spells

pub spell_product-requires-clause-right : goal.spell_product-requires-clause-right
spell_product-requires-clause-right c = c.requires.right.spells

pub spell_product-requires-clause-room : goal.spell_product-requires-clause-room
spell_product-requires-clause-room c = joined-room _ _ _ _ (product-joined _ _ _ _) _ c.requires.letters _ _ _ _ c.requires.left c.requires.right

pub counted-requires : goal.counted-requires
counted-requires c = omega (arith, c.requires.left.count, c.requires.right.count, count-within c.args.cx.now.theory.declarations (tree_of c.args.cx.now.trees c.args.a) c.requires.left.large, count-within c.args.cx.now.theory.declarations (tree_of c.args.cx.now.trees c.args.b) c.requires.right.large)

pub returns-clause-reached : goal.returns-clause-reached
returns-clause-reached c =
    c.counted.ensures _ _ _ _ (joined-counted _ _ _ _ (product-joined _ _ _ _) _ c.requires.letters _ _ _ _ c.requires.left c.requires.right _ _ (sym c.are_long.ensures ∙ c.if-are_long.false) c.in_ok-q.ensures.spells (c.in_ok-q.ensures.pairs ∙ (λ i. joined (c.requires.left.pairs i) (c.requires.right.pairs i))))
