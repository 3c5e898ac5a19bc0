use Rattle.std.proofs.Common.{[], ap, refl, sym, ◌∙◌}
use Rattle.alg_terms.specs.declared.sorts.Sort.TheVariants.{Int}
use Rattle.alg_terms.specs.Tree.{Lit}
use Rattle.alg_build.proofs.Lines.{grows-then}
use Rattle.alg_build.proofs.Rewritings.{grows-stands, grows-turns, target}
use Rattle.alg_rows.specs.Operations.{integer_power_tree, inverse_tree, negation_tree}
use Rattle.alg_group_words.specs.Syllables.{joined_inverse}
use Rattle.alg_group_stack.proofs.Homes.{own-stands, own-turns}
use Rattle.alg_group_stack.proofs.WordLemmas.{grows-pairs, grows-word}
use Rattle.alg_group_stack.proofs.StepLemmas.{turns-cast, word-later}
use Rattle.alg_group_spelling.proofs.RaiseLemmas.{size-up}
use Rattle.alg_group_spelling.proofs.raising.raise_below.Goals as goal

pub inverse-requires-clause-word : goal.inverse-requires-clause-word
inverse-requires-clause-word c = rw c.deref.ensures.value c.in_ok-up.ensures.word

pub inverse-requires-clause-room : goal.inverse-requires-clause-room
inverse-requires-clause-room c = rw c.deref.ensures.value (size-up c.args.cx.now c.raise_above.new.cx c.args.w.now c.in_ok-up.up.word.items c.args.n c.in_ok-up.ensures.pairs c.requires.room)

pub power_below-requires-clause-base : goal.power_below-requires-clause-base
power_below-requires-clause-base c = own-stands _ _ _ _ (grows-stands _ _ (grows-then _ _ _ c.raise_above.ensures.grows c.inverse.ensures.grows) _ _ _ c.whole-all.ensures)

pub power_below-requires-clause-up : goal.power_below-requires-clause-up
power_below-requires-clause-up c =
    let a = (grows-stands _ _ (grows-then _ _ _ c.raise_above.ensures.grows c.inverse.ensures.grows) _ _ _ c.whole-all.ensures).tree in
    rw a (own-turns _ _ _ _ _ (grows-turns _ _ c.inverse.ensures.grows _ _ _ _ c.in_ok-up.ensures.turns))

pub power_below-requires-clause-down : goal.power_below-requires-clause-down
power_below-requires-clause-down c =
    let u = (target _ _ _ _ _ (grows-turns _ _ c.inverse.ensures.grows _ _ _ _ c.in_ok-up.ensures.turns)).tree in
    rw u (own-turns _ _ _ _ _ (rw c.deref.ensures.value at c.in_ok-down.ensures.turns))

pub returns-clause-word : goal.returns-clause-word
returns-clause-word c = grows-word _ _ c.power_below.ensures.grows _ _ c.in_ok-down.ensures.word

pub returns-clause-pairs : goal.returns-clause-pairs
returns-clause-pairs c =
    grows-pairs _ _ c.power_below.ensures.grows _ _ c.in_ok-down.ensures.word
    ∙ (rw c.deref.ensures.value at c.in_ok-down.ensures.pairs)
    ∙ ap (joined_inverse []) c.in_ok-up.ensures.pairs

pub returns-clause-turns : goal.returns-clause-turns
returns-clause-turns c =
    let a = (grows-stands _ _ (grows-then _ _ _ c.raise_above.ensures.grows c.inverse.ensures.grows) _ _ _ c.whole-all.ensures).tree in
    turns-cast _ _ _ _ _ _ _ (ap (λ t. integer_power_tree c.args.h.sort t (negation_tree Int (Lit Int c.args.n))) a)
    (c.in_ok-down.ensures.turns.tree ∙ sym (word-later _ _ c.power_below.ensures.grows _ _ c.in_ok-down.ensures.word))
    c.in_ok-turns.ensures.turns
