use Rattle.std.proofs.Common.{sym, subst, ◌∙◌, ap, refl}
use Rattle.alg_build.proofs.Rewritings.{target}
use Rattle.alg_rows.specs.Operations.{inverse_tree}
use Rattle.alg_group_words.specs.Syllables.{joined_inverse}
use Rattle.alg_group_stack.specs.Words.{IsWord, HaveRoom, pairs_of}
use Rattle.alg_group_stack.proofs.WordLemmas.{grows-pairs, grows-word}
use Rattle.alg_group_stack.proofs.StepLemmas.{turns-cast, word-later}
use Rattle.alg_group_spelling.proofs.RaiseLemmas.{empty-room, empty-word, inverse-from}
use Rattle.alg_group_spelling.proofs.raising.inverse.Goals as goal

pub join_inverse-requires-clause-left : goal.join_inverse-requires-clause-left
join_inverse-requires-clause-left c = subst (λ xs. IsWord c.args.cx.now c.args.h.sort xs) (sym c.new-word.ensures.items) (empty-word _ _)

pub join_inverse-requires-clause-room : goal.join_inverse-requires-clause-room
join_inverse-requires-clause-room c = subst (λ xs. HaveRoom c.args.cx.now xs c.args.w.now) (sym c.new-word.ensures.items) (empty-room _ _ c.requires.room)

pub without_one-requires-clause-word : goal.without_one-requires-clause-word
without_one-requires-clause-word c = grows-word _ _ c.join_inverse.ensures.grows _ _ c.requires.word

pub without_one-requires-clause-turns : goal.without_one-requires-clause-turns
without_one-requires-clause-turns c = inverse-from _ _ c.join_inverse.ensures.grows _ _ c.requires.word _ _ _ c.new-word.ensures.items c.in_ok-r.ensures.turns

pub returns-clause-word : goal.returns-clause-word
returns-clause-word c = grows-word _ _ c.without_one.ensures.grows _ _ c.in_ok-r.ensures.word

pub returns-clause-pairs : goal.returns-clause-pairs
returns-clause-pairs c = grows-pairs _ _ c.without_one.ensures.grows _ _ c.in_ok-r.ensures.word ∙ c.in_ok-r.ensures.pairs ∙ ap (λ xs. joined_inverse (pairs_of c.args.cx.now xs) (pairs_of c.args.cx.now c.args.w.now)) c.new-word.ensures.items

pub returns-clause-turns : goal.returns-clause-turns
returns-clause-turns c =
    turns-cast _ _ _ _ _ _ _ (ap (inverse_tree c.args.h.sort) (word-later _ _ c.join_inverse.ensures.grows _ _ c.requires.word))
    (c.in_ok-r.ensures.turns.tree ∙ sym (word-later _ _ c.without_one.ensures.grows _ _ c.in_ok-r.ensures.word))
    c.in_ok-turns.ensures.turns
