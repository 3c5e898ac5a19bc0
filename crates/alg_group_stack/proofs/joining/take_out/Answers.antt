use Rattle.std.proofs.Common.{sym, subst, ◌∙◌}
use Rattle.alg_terms.specs.Tree.{product_tree}
use Rattle.alg_expr.specs.Ids.{tree_of}
use Rattle.alg_build.proofs.Lines.{grows-then}
use Rattle.alg_build.specs.Rewriting.{Turns}
use Rattle.alg_build.proofs.Rewritings.{grows-stands, grows-turns, follows, turns-in}
use Rattle.alg_rows.specs.Operations.{inverse_tree}
use Rattle.alg_group_stack.specs.Words.{pair_of, pairs_of, syllable_tree, word_tree}
use Rattle.alg_group_stack.proofs.Homes.{own-stands}
use Rattle.alg_group_stack.proofs.WordLemmas.{grows-pairs, grows-word}
use Rattle.alg_group_stack.proofs.StepLemmas.{grows-room, minus-from, minus-pairs, minus-power, minus-room}
use Rattle.alg_group_stack.proofs.joining.take_out.Goals as goal

pub step_out-requires-clause-left : goal.step_out-requires-clause-left
step_out-requires-clause-left c = own-stands _ _ _ _ c.whole-left.ensures

pub push-requires-clause-word : goal.push-requires-clause-word
push-requires-clause-word c = grows-word _ _ c.step_out.ensures.grows _ _ c.requires.word

pub push-requires-clause-power : goal.push-requires-clause-power
push-requires-clause-power c = rw c.negated-next.ensures (minus-power _ _ _ _ _ _ c.step_out.ensures.grows c.requires.power c.in_ok-m.ensures.power)

pub push-requires-clause-room : goal.push-requires-clause-room
push-requires-clause-room c = rw c.negated-next.ensures (minus-room _ _ _ (grows-room _ _ c.step_out.ensures.grows _ _ c.requires.word _ c.requires.room))

pub beside_inverse-requires-clause-before : goal.beside_inverse-requires-clause-before
beside_inverse-requires-clause-before c = own-stands _ _ _ _ (grows-stands _ _ (grows-then _ _ _ c.step_out.ensures.grows c.push.ensures.grows) _ _ _ c.requires.before)

pub beside_inverse-requires-clause-turns : goal.beside_inverse-requires-clause-turns
beside_inverse-requires-clause-turns c = turns-in _ _ _ _ _ c.in_ok-q.ensures.turns

pub then-requires : goal.then-requires
then-requires c = follows _ _ _ _ _ _ _ (grows-turns _ _ (grows-then _ _ _ c.push.ensures.grows c.beside_inverse.ensures.grows) _ _ _ _ (rw (rw c.as_slice.ensures.value at c.whole-left.ensures).tree at c.in_ok-m.ensures.turns)) (rw (grows-stands _ _ (grows-then _ _ _ c.step_out.ensures.grows c.push.ensures.grows) _ _ _ c.requires.before).tree at (c.in_ok-r.ensures.turns _ _ (minus-from _ _ c.step_out.ensures.grows _ _ c.requires.word _ c.in_ok-m.m.power c.args.x.whole c.requires.power _ _ _ (rw c.negated-next.ensures at c.in_ok-q.ensures.turns))))

pub returns-clause-word : goal.returns-clause-word
returns-clause-word c = grows-word _ _ (grows-then _ _ _ c.beside_inverse.ensures.grows c.then.ensures.grows) _ _ c.in_ok-q.ensures.word

pub returns-clause-pairs : goal.returns-clause-pairs
returns-clause-pairs c = grows-pairs _ _ (grows-then _ _ _ c.beside_inverse.ensures.grows c.then.ensures.grows) _ _ c.in_ok-q.ensures.word ∙ (rw c.negated-next.ensures at c.in_ok-q.ensures.pairs) ∙ minus-pairs _ _ c.step_out.ensures.grows _ _ c.requires.word _ c.in_ok-m.m.power c.args.x.whole c.requires.power

pub returns-clause-turns : goal.returns-clause-turns
returns-clause-turns c =
    let t = c.in_ok-p.ensures.turns _ _ _ _ (grows-turns _ _ (grows-then _ _ _ c.push.ensures.grows c.beside_inverse.ensures.grows) _ _ _ _ (rw (rw c.as_slice.ensures.value at c.whole-left.ensures).tree at c.in_ok-m.ensures.turns)) (rw (grows-stands _ _ (grows-then _ _ _ c.step_out.ensures.grows c.push.ensures.grows) _ _ _ c.requires.before).tree at (c.in_ok-r.ensures.turns _ _ (minus-from _ _ c.step_out.ensures.grows _ _ c.requires.word _ c.in_ok-m.m.power c.args.x.whole c.requires.power _ _ _ (rw c.negated-next.ensures at c.in_ok-q.ensures.turns)))) in
    subst (λ ps. Turns c.then.new.cx c.args.h.sort c.in_ok-p.p (product_tree c.args.h.sort (word_tree c.args.h.sort (pairs_of c.args.cx.now c.args.stack.now.items)) (inverse_tree c.args.h.sort (product_tree c.args.h.sort (tree_of c.args.cx.now.trees c.args.before) (syllable_tree c.args.h.sort (pair_of c.args.cx.now c.args.x))))) (product_tree c.args.h.sort (word_tree c.args.h.sort ps) (inverse_tree c.args.h.sort (tree_of c.args.cx.now.trees c.args.before)))) (sym (grows-pairs _ _ (grows-then _ _ _ c.beside_inverse.ensures.grows c.then.ensures.grows) _ _ c.in_ok-q.ensures.word)) t
