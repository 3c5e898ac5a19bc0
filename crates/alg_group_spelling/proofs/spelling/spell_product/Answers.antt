use Rattle.std.proofs.Common.{◌∙◌}
use Rattle.alg_build.proofs.Rewritings.{follows, grows-turns, turns-in}
use Rattle.alg_group_stack.proofs.StepLemmas.{after}
use Rattle.alg_group_spelling.proofs.RaiseLemmas.{joined-from, joined-same, left-later, right-later, rooms-later, spells-of}
use Rattle.alg_group_spelling.proofs.spelling.spell_product.Goals as goal

pub times-requires-clause-left : goal.times-requires-clause-left
times-requires-clause-left c = turns-in _ _ _ _ _ c.requires.left.turns

pub times-requires-clause-right : goal.times-requires-clause-right
times-requires-clause-right c = turns-in _ _ _ _ _ c.requires.right.turns

pub join-requires-clause-left : goal.join-requires-clause-left
join-requires-clause-left c = left-later _ _ c.times.ensures.grows _ _ _ _ _ c.requires.left.word c.requires.right.word (c.in_ok-word.ensures ∙ c.deref.ensures.value) c.deref-2.ensures.value

pub join-requires-clause-right : goal.join-requires-clause-right
join-requires-clause-right c = right-later _ _ c.times.ensures.grows _ _ _ _ _ c.requires.left.word c.requires.right.word (c.in_ok-word.ensures ∙ c.deref.ensures.value) c.deref-2.ensures.value

pub join-requires-clause-room : goal.join-requires-clause-room
join-requires-clause-room c = rooms-later _ _ c.times.ensures.grows _ _ _ _ _ c.requires.left.word c.requires.right.word (c.in_ok-word.ensures ∙ c.deref.ensures.value) c.deref-2.ensures.value c.requires.room

pub then-requires : goal.then-requires
then-requires c =
    follows _ _ _ _ _ _ _ (grows-turns _ _ c.join.ensures.grows _ _ _ _ (c.in_ok-both.ensures.turns _ _ _ _ c.requires.left.turns c.requires.right.turns))
    (joined-from _ _ c.times.ensures.grows _ _ _ _ _ c.requires.left.word c.requires.right.word (c.in_ok-word.ensures ∙ c.deref.ensures.value) c.deref-2.ensures.value _ _ _ c.in_ok-r.ensures.turns)

pub returns-clause-spells : goal.returns-clause-spells
returns-clause-spells c =
    let t = c.in_ok-turns.ensures.turns _ _ _ _ (grows-turns _ _ c.join.ensures.grows _ _ _ _ (c.in_ok-both.ensures.turns _ _ _ _ c.requires.left.turns c.requires.right.turns))
    (joined-from _ _ c.times.ensures.grows _ _ _ _ _ c.requires.left.word c.requires.right.word (c.in_ok-word.ensures ∙ c.deref.ensures.value) c.deref-2.ensures.value _ _ _ c.in_ok-r.ensures.turns) in
    spells-of _ _ _ _ _ (after _ _ _ _ _ _ _ c.then.ensures.grows c.in_ok-r.ensures.word c.in_ok-r.ensures.pairs t)

pub returns-clause-pairs : goal.returns-clause-pairs
returns-clause-pairs c =
    let t = c.in_ok-turns.ensures.turns _ _ _ _ (grows-turns _ _ c.join.ensures.grows _ _ _ _ (c.in_ok-both.ensures.turns _ _ _ _ c.requires.left.turns c.requires.right.turns))
    (joined-from _ _ c.times.ensures.grows _ _ _ _ _ c.requires.left.word c.requires.right.word (c.in_ok-word.ensures ∙ c.deref.ensures.value) c.deref-2.ensures.value _ _ _ c.in_ok-r.ensures.turns) in
    (after _ _ _ _ _ _ _ c.then.ensures.grows c.in_ok-r.ensures.word c.in_ok-r.ensures.pairs t).pairs
    ∙ joined-same _ _ c.times.ensures.grows _ _ _ _ _ c.requires.left.word c.requires.right.word (c.in_ok-word.ensures ∙ c.deref.ensures.value) c.deref-2.ensures.value
