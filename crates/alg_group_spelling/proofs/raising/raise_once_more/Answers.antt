use Rattle.std.proofs.Common.{◌+◌, ap, refl, sym, ◌∙◌}
use Rattle.alg_terms.specs.declared.sorts.Sort.TheVariants.{Nat}
use Rattle.alg_terms.specs.Tree.{Lit, product_tree}
use Rattle.alg_build.proofs.Lines.{grows-proves, grows-then}
use Rattle.alg_build.proofs.Rewritings.{grows-stands, is-rewriting}
use Rattle.alg_rows.specs.Operations.{power_tree}
use Rattle.alg_group_words.specs.Syllables.{joined}
use Rattle.alg_group_stack.specs.Words.{pairs_of, word_tree}
use Rattle.alg_group_stack.proofs.Homes.{own-stands, own-turns}
use Rattle.alg_group_stack.proofs.WordLemmas.{grows-pairs, grows-word}
use Rattle.alg_group_stack.proofs.StepLemmas.{turns-cast, word-later}
use Rattle.alg_group_spelling.proofs.RaiseLemmas.{grows-rooms}
use Rattle.alg_group_spelling.proofs.raising.raise_once_more.Goals as goal

pub line_of-requires : goal.line_of-requires
line_of-requires c = is-rewriting _ _ _ _ _ c.requires.turns

pub join-requires-clause-left : goal.join-requires-clause-left
join-requires-clause-left c = grows-word _ _ c.line_of.ensures.grows _ _ c.requires.so_far

pub join-requires-clause-right : goal.join-requires-clause-right
join-requires-clause-right c = grows-word _ _ c.line_of.ensures.grows _ _ c.requires.base

pub join-requires-clause-room : goal.join-requires-clause-room
join-requires-clause-room c = grows-rooms _ _ c.line_of.ensures.grows _ _ _ c.requires.so_far c.requires.base c.requires.room

pub next_power-requires-clause-base : goal.next_power-requires-clause-base
next_power-requires-clause-base c = own-stands _ _ _ _ (grows-stands _ _ (grows-then _ _ _ c.line_of.ensures.grows c.join.ensures.grows) _ _ _ c.whole-all.ensures)

pub next_power-requires-clause-before : goal.next_power-requires-clause-before
next_power-requires-clause-before c = own-stands _ _ _ _ (grows-stands _ _ (grows-then _ _ _ c.line_of.ensures.grows c.join.ensures.grows) _ _ _ c.whole-before.ensures)

pub next_power-requires-clause-turns : goal.next_power-requires-clause-turns
next_power-requires-clause-turns c =
    let g = grows-then _ _ _ c.line_of.ensures.grows c.join.ensures.grows in
    let a = (grows-stands _ _ g _ _ _ c.whole-all.ensures).tree in
    let b = (grows-stands _ _ g _ _ _ (rw c.as_slice.ensures.value at c.whole-before.ensures)).tree in
    let v = word-later _ _ c.line_of.ensures.grows _ _ c.requires.so_far in
    let w = word-later _ _ c.line_of.ensures.grows _ _ c.requires.base in
    own-turns _ _ _ _ _ (turns-cast _ _ _ _ _ _ _ (λ i. product_tree c.args.h.sort ((v ∙ sym b) i) ((w ∙ sym a) i)) refl c.in_ok-r.ensures.turns)

pub next_power-requires-clause-power : goal.next_power-requires-clause-power
next_power-requires-clause-power c =
    let g = grows-then _ _ _ c.line_of.ensures.grows c.join.ensures.grows in
    let a = (grows-stands _ _ g _ _ _ c.whole-all.ensures).tree in
    let b = (grows-stands _ _ g _ _ _ (rw c.as_slice.ensures.value at c.whole-before.ensures)).tree in
    rw (a, b) (grows-proves _ _ _ _ _ c.join.ensures.grows (c.in_ok-line.ensures.proves _ _ _ c.requires.turns))

pub returns-clause-word : goal.returns-clause-word
returns-clause-word c = grows-word _ _ c.next_power.ensures.grows _ _ c.in_ok-r.ensures.word

pub returns-clause-pairs : goal.returns-clause-pairs
returns-clause-pairs c =
    grows-pairs _ _ c.next_power.ensures.grows _ _ c.in_ok-r.ensures.word
    ∙ c.in_ok-r.ensures.pairs
    ∙ (λ i. joined (grows-pairs _ _ c.line_of.ensures.grows _ _ c.requires.so_far i) (grows-pairs _ _ c.line_of.ensures.grows _ _ c.requires.base i))

pub returns-clause-turns : goal.returns-clause-turns
returns-clause-turns c =
    let g = grows-then _ _ _ c.line_of.ensures.grows c.join.ensures.grows in
    let a = (grows-stands _ _ g _ _ _ c.whole-all.ensures).tree in
    turns-cast _ _ _ _ _ _ _ (ap (λ t. power_tree c.args.h.sort t (Lit Nat (c.args.m + 1))) a)
    (c.in_ok-r.ensures.turns.tree ∙ sym (word-later _ _ c.next_power.ensures.grows _ _ c.in_ok-r.ensures.word))
    c.in_ok-p.ensures.turns
