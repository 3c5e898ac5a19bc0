use Rattle.std.proofs.Common.{arith, ap, sym, ◌∙◌}
use Rattle.alg_expr.specs.Ids.{tree_of}
use Rattle.alg_group_words.specs.Syllables.{joined_inverse}
use Rattle.alg_group_found.proofs.ReachLemmas.{count-within, joined-counted, joined-long, joined-room, quotient-joined}
use Rattle.alg_group_found.proofs.words.quotient.Goals as goal

pub returns-then-are_long-clause-reached : goal.returns-then-are_long-clause-reached
returns-then-are_long-clause-reached c = joined-long _ _ _ _ (quotient-joined _ _ _ _) _ c.requires.letters _ _ _ _ c.requires.left c.requires.right (sym c.are_long.ensures ∙ c.if-are_long.true)

pub spell_quotient-requires-clause-left : goal.spell_quotient-requires-clause-left
spell_quotient-requires-clause-left c = c.requires.left.spells

pub spell_quotient-requires-clause-right : goal.spell_quotient-requires-clause-right
spell_quotient-requires-clause-right c = c.requires.right.spells

pub spell_quotient-requires-clause-room : goal.spell_quotient-requires-clause-room
spell_quotient-requires-clause-room c = joined-room _ _ _ _ (quotient-joined _ _ _ _) _ c.requires.letters _ _ _ _ c.requires.left c.requires.right

pub counted-requires : goal.counted-requires
counted-requires c = omega (arith, c.requires.left.count, c.requires.right.count, count-within c.args.cx.now.theory.declarations (tree_of c.args.cx.now.trees c.args.a) c.requires.left.large, count-within c.args.cx.now.theory.declarations (tree_of c.args.cx.now.trees c.args.b) c.requires.right.large)

pub returns-clause-reached : goal.returns-clause-reached
returns-clause-reached c =
    c.counted.ensures _ _ _ _ (joined-counted _ _ _ _ (quotient-joined _ _ _ _) _ c.requires.letters _ _ _ _ c.requires.left c.requires.right _ _ (sym c.are_long.ensures ∙ c.if-are_long.false) c.in_ok-q.ensures.spells (c.in_ok-q.ensures.pairs ∙ (λ i. joined_inverse (c.requires.left.pairs i) (c.requires.right.pairs i))))
