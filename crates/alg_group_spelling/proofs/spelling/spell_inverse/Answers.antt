use Rattle.std.proofs.Common.{[], ap, refl, ◌∙◌}
use Rattle.alg_build.proofs.Rewritings.{follows, grows-turns, stands-over_one}
use Rattle.alg_rows.specs.Operations.{inverse_tree}
use Rattle.alg_group_words.specs.Syllables.{joined_inverse}
use Rattle.alg_group_stack.proofs.Homes.{head-inverse}
use Rattle.alg_group_stack.proofs.WordLemmas.{grows-pairs, grows-word}
use Rattle.alg_group_stack.proofs.StepLemmas.{after, turns-cast, word-later}
use Rattle.alg_group_spelling.proofs.RaiseLemmas.{spells-of}
use Rattle.alg_group_spelling.proofs.spelling.spell_inverse.Goals as goal

pub under_one-requires : goal.under_one-requires
under_one-requires c = stands-over_one _ _ _ _ _ _ _ c.requires.part.turns (head-inverse _ _ c.requires.home)

pub inverse-requires-clause-word : goal.inverse-requires-clause-word
inverse-requires-clause-word c = rw c.deref.ensures.value (grows-word _ _ c.under_one.ensures.grows _ _ c.requires.part.word)

pub inverse-requires-clause-room : goal.inverse-requires-clause-room
inverse-requires-clause-room c = rw (c.deref.ensures.value, grows-pairs _ _ c.under_one.ensures.grows _ _ c.requires.part.word) c.requires.room

pub then-requires : goal.then-requires
then-requires c =
    follows _ _ _ _ _ _ _ (grows-turns _ _ c.inverse.ensures.grows _ _ _ _ (c.in_ok-under.ensures.turns _ _ _ c.requires.part.turns (head-inverse _ _ c.requires.home)))
    (turns-cast _ _ _ _ _ _ _ (ap (inverse_tree c.args.h.sort) (word-later _ _ c.under_one.ensures.grows _ _ c.requires.part.word)) refl (rw c.deref.ensures.value at c.in_ok-q.ensures.turns))

pub returns-clause-spells : goal.returns-clause-spells
returns-clause-spells c =
    let t = c.in_ok-turns.ensures.turns _ _ _ _ (grows-turns _ _ c.inverse.ensures.grows _ _ _ _ (c.in_ok-under.ensures.turns _ _ _ c.requires.part.turns (head-inverse _ _ c.requires.home)))
    (turns-cast _ _ _ _ _ _ _ (ap (inverse_tree c.args.h.sort) (word-later _ _ c.under_one.ensures.grows _ _ c.requires.part.word)) refl (rw c.deref.ensures.value at c.in_ok-q.ensures.turns)) in
    spells-of _ _ _ _ _ (after _ _ _ _ _ _ _ c.then.ensures.grows c.in_ok-q.ensures.word refl t)

pub returns-clause-pairs : goal.returns-clause-pairs
returns-clause-pairs c =
    grows-pairs _ _ c.then.ensures.grows _ _ c.in_ok-q.ensures.word
    ∙ (rw c.deref.ensures.value at c.in_ok-q.ensures.pairs)
    ∙ ap (joined_inverse []) (grows-pairs _ _ c.under_one.ensures.grows _ _ c.requires.part.word)
