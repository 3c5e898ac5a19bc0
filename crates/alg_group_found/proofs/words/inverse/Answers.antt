use Rattle.std.proofs.Common.{[], arith, ap, ◌∙◌}
use Rattle.alg_expr.specs.Ids.{tree_of}
use Rattle.alg_group_words.specs.Syllables.{joined_inverse}
use Rattle.alg_group_found.proofs.ReachLemmas.{count-within, inverse-inverted, inverted-counted, inverted-room}
use Rattle.alg_group_found.proofs.words.inverse.Goals as goal

pub spell_inverse-requires-clause-part : goal.spell_inverse-requires-clause-part
spell_inverse-requires-clause-part c = c.requires.part.spells

pub spell_inverse-requires-clause-room : goal.spell_inverse-requires-clause-room
spell_inverse-requires-clause-room c = inverted-room _ _ _ (inverse-inverted c.args.cx.now.theory.declarations c.args.h.sort (tree_of c.args.cx.now.trees c.args.a)) _ _ _ c.requires.part

pub counted-requires : goal.counted-requires
counted-requires c = omega (arith, c.requires.part.count, count-within c.args.cx.now.theory.declarations (tree_of c.args.cx.now.trees c.args.a) c.requires.part.large)

pub returns-clause-reached : goal.returns-clause-reached
returns-clause-reached c = c.counted.ensures _ _ _ _ (inverted-counted _ _ _ (inverse-inverted c.args.cx.now.theory.declarations c.args.h.sort (tree_of c.args.cx.now.trees c.args.a)) _ _ _ c.requires.part _ _ c.in_ok-q.ensures.spells (c.in_ok-q.ensures.pairs ∙ ap (joined_inverse []) c.requires.part.pairs))
