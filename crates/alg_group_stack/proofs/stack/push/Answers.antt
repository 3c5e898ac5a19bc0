use Rattle.std.proofs.Common.{ap, sym, subst, ◌∙◌, ◌∷◌, ◌++◌, []}
use Rattle.alg_terms.specs.Tree.{Tree, product_tree}
use Rattle.alg_terms.proofs.OrderLaws.{tree_same-equal}
use Rattle.alg_build.specs.Rewriting.{Turns}
use Rattle.alg_group_words.specs.Syllables.{push}
use Rattle.alg_group_stack.specs.Words.{IsWord, pair_of, pairs_of, syllable_tree, word_tree}
use Rattle.alg_group_stack.proofs.WordLemmas.{pairs-append, word-end, word-before, word-last, push-same, push-other, room-meet}
use Rattle.alg_group_stack.proofs.stack.push.Goals as goal

pub is_same-requires-clause-left : goal.is_same-requires-clause-left
is_same-requires-clause-left c = (word-last _ _ _ _ (subst (λ zs. IsWord c.args.cx.now c.args.h.sort zs) c.in-Some.ensures.items c.requires.word)).power.atom.here

pub meet-requires-clause-word : goal.meet-requires-clause-word
meet-requires-clause-word c = word-before _ _ _ _ (subst (λ zs. IsWord c.args.cx.now c.args.h.sort zs) c.in-Some.ensures.items c.requires.word)

pub meet-requires-clause-left : goal.meet-requires-clause-left
meet-requires-clause-left c = (word-last _ _ _ _ (subst (λ zs. IsWord c.args.cx.now c.args.h.sort zs) c.in-Some.ensures.items c.requires.word)).power

pub meet-requires-clause-same : goal.meet-requires-clause-same
meet-requires-clause-same c = tree_same-equal _ _ (sym c.is_same.ensures ∙ c.if-is_same.true)

pub meet-requires-clause-small : goal.meet-requires-clause-small
meet-requires-clause-small c = room-meet _ _ _ _ _ c.in-Some.ensures.items c.requires.room

pub returns-then-is_same-clause-pairs : goal.returns-then-is_same-clause-pairs
returns-then-is_same-clause-pairs c = c.in_ok-r-in-Some.ensures.pairs ∙ sym (ap (λ ps. push ps (pair_of c.args.cx.now c.args.x)) (ap (pairs_of c.args.cx.now) c.in-Some.ensures.items ∙ pairs-append c.args.cx.now c.pop.new.self.items (c.in-Some.last ∷ [])) ∙ push-same (pairs_of c.args.cx.now c.pop.new.self.items) (pair_of c.args.cx.now c.in-Some.last) (pair_of c.args.cx.now c.args.x) (sym c.is_same.ensures ∙ c.if-is_same.true))

pub returns-then-is_same-clause-turns : goal.returns-then-is_same-clause-turns
returns-then-is_same-clause-turns c = subst (λ t. Turns c.meet.new.cx c.args.h.sort c.in_ok-r-in-Some.r (product_tree c.args.h.sort t (syllable_tree c.args.h.sort (pair_of c.args.cx.now c.args.x))) (word_tree c.args.h.sort (pairs_of c.meet.new.cx c.meet.new.stack.items))) (sym (ap (word_tree c.args.h.sort) (ap (pairs_of c.args.cx.now) c.in-Some.ensures.items ∙ pairs-append c.args.cx.now c.pop.new.self.items (c.in-Some.last ∷ [])) ∙ word-end c.args.h.sort (pairs_of c.args.cx.now c.pop.new.self.items) (pair_of c.args.cx.now c.in-Some.last))) c.in_ok-r-in-Some.ensures.turns

pub returns-in_ok-r-in-Some-2-clause-pairs : goal.returns-in_ok-r-in-Some-2-clause-pairs
returns-in_ok-r-in-Some-2-clause-pairs c =
    c.in_ok-r-in-Some-2.ensures.pairs
    ∙ ap (λ ps. ps ++ pair_of c.args.cx.now c.args.x ∷ []) (ap (pairs_of c.args.cx.now) c.in_ok-push-in-Some.ensures.items ∙ pairs-append c.args.cx.now c.pop.new.self.items (c.in-Some.last ∷ []))
    ∙ sym (ap (λ ps. push ps (pair_of c.args.cx.now c.args.x)) (ap (pairs_of c.args.cx.now) c.in-Some.ensures.items ∙ pairs-append c.args.cx.now c.pop.new.self.items (c.in-Some.last ∷ [])) ∙ push-other (pairs_of c.args.cx.now c.pop.new.self.items) (pair_of c.args.cx.now c.in-Some.last) (pair_of c.args.cx.now c.args.x) (sym c.is_same.ensures ∙ c.if-is_same.false) c.requires.power.some)
