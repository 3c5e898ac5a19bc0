use Rattle.std.proofs.Common.{ap, refl, ◌∙◌}
use Rattle.alg_terms.specs.declared.sorts.Sort.TheVariants.{Int}
use Rattle.alg_build.proofs.Rewritings.{follows, grows-turns, stands-over}
use Rattle.alg_rows.specs.Operations.{integer_power_tree}
use Rattle.alg_numerals.specs.WholeTree.{whole_tree}
use Rattle.alg_group_words.specs.Syllables.{raised_runs}
use Rattle.alg_group_stack.proofs.Homes.{head-integer_power}
use Rattle.alg_group_stack.proofs.WordLemmas.{grows-pairs, grows-word}
use Rattle.alg_group_stack.proofs.StepLemmas.{after, turns-cast, word-later}
use Rattle.alg_group_spelling.proofs.RaiseLemmas.{runs-later, size-later, spells-of}
use Rattle.alg_group_spelling.proofs.spelling.spell_integer_power.Goals as goal

pub under_two-requires : goal.under_two-requires
under_two-requires c = stands-over _ _ _ _ _ _ _ _ _ _ _ c.requires.part.turns c.requires.exponent (head-integer_power _ _ c.requires.home)

pub raise-requires-clause-word : goal.raise-requires-clause-word
raise-requires-clause-word c = rw c.deref.ensures.value (grows-word _ _ c.under_two.ensures.grows _ _ c.requires.part.word)

pub raise-requires-clause-runs : goal.raise-requires-clause-runs
raise-requires-clause-runs c = rw c.deref.ensures.value (runs-later _ _ c.under_two.ensures.grows _ _ c.requires.part.word c.requires.runs)

pub raise-requires-clause-room : goal.raise-requires-clause-room
raise-requires-clause-room c = rw c.deref.ensures.value (size-later _ _ c.under_two.ensures.grows _ _ c.requires.part.word _ c.requires.room)

pub then-requires : goal.then-requires
then-requires c =
    follows _ _ _ _ _ _ _ (grows-turns _ _ c.raise.ensures.grows _ _ _ _ (c.in_ok-under.ensures.turns _ _ _ _ _ _ c.requires.part.turns c.requires.exponent (head-integer_power _ _ c.requires.home)))
    (turns-cast _ _ _ _ _ _ _ (ap (λ t. integer_power_tree c.args.h.sort t (whole_tree Int c.args.z.now)) (word-later _ _ c.under_two.ensures.grows _ _ c.requires.part.word)) refl (rw c.deref.ensures.value at c.in_ok-q.ensures.turns))

pub returns-clause-spells : goal.returns-clause-spells
returns-clause-spells c =
    let t = c.in_ok-turns.ensures.turns _ _ _ _ (grows-turns _ _ c.raise.ensures.grows _ _ _ _ (c.in_ok-under.ensures.turns _ _ _ _ _ _ c.requires.part.turns c.requires.exponent (head-integer_power _ _ c.requires.home)))
    (turns-cast _ _ _ _ _ _ _ (ap (λ t. integer_power_tree c.args.h.sort t (whole_tree Int c.args.z.now)) (word-later _ _ c.under_two.ensures.grows _ _ c.requires.part.word)) refl (rw c.deref.ensures.value at c.in_ok-q.ensures.turns)) in
    spells-of _ _ _ _ _ (after _ _ _ _ _ _ _ c.then.ensures.grows c.in_ok-q.ensures.word refl t)

pub returns-clause-pairs : goal.returns-clause-pairs
returns-clause-pairs c =
    grows-pairs _ _ c.then.ensures.grows _ _ c.in_ok-q.ensures.word
    ∙ (rw c.deref.ensures.value at c.in_ok-q.ensures.pairs)
    ∙ ap (λ ps. raised_runs ps c.args.z.now) (grows-pairs _ _ c.under_two.ensures.grows _ _ c.requires.part.word)
