use Rattle.std.proofs.Common.{ap, refl, sym, ◌∙◌}
use Rattle.alg_terms.specs.declared.sorts.Sort.TheVariants.{Int}
use Rattle.alg_build.proofs.Rewritings.{follows, grows-turns}
use Rattle.alg_rows.specs.Operations.{integer_power_tree}
use Rattle.alg_numerals.specs.WholeTree.{whole_tree}
use Rattle.alg_group_words.specs.Syllables.{raised_runs}
use Rattle.alg_group_stack.proofs.Homes.{own-stands}
use Rattle.alg_group_stack.proofs.WordLemmas.{grows-pairs, grows-word}
use Rattle.alg_group_stack.proofs.StepLemmas.{after, turns-cast, word-later}
use Rattle.alg_group_spelling.proofs.RaiseLemmas.{runs-later, size-later}
use Rattle.alg_group_spelling.proofs.raising.raise_by_natural.Goals as goal

pub from_natural-requires-clause-base : goal.from_natural-requires-clause-base
from_natural-requires-clause-base c = own-stands _ _ _ _ c.whole-all.ensures

pub raise-requires-clause-word : goal.raise-requires-clause-word
raise-requires-clause-word c = grows-word _ _ c.from_natural.ensures.grows _ _ c.requires.word

pub raise-requires-clause-runs : goal.raise-requires-clause-runs
raise-requires-clause-runs c = runs-later _ _ c.from_natural.ensures.grows _ _ c.requires.word c.requires.runs

pub raise-requires-clause-room : goal.raise-requires-clause-room
raise-requires-clause-room c = size-later _ _ c.from_natural.ensures.grows _ _ c.requires.word _ c.requires.room

pub then-requires : goal.then-requires
then-requires c =
    follows _ _ _ _ _ _ _ (grows-turns _ _ c.raise.ensures.grows _ _ _ _ (rw c.whole-all.ensures.tree at c.in_ok-r.ensures.turns))
    (turns-cast _ _ _ _ _ _ _ (ap (λ t. integer_power_tree c.args.h.sort t (whole_tree Int c.args.z.now)) (word-later _ _ c.from_natural.ensures.grows _ _ c.requires.word)) refl c.in_ok-q.ensures.turns)

pub returns-clause-word : goal.returns-clause-word
returns-clause-word c = grows-word _ _ c.then.ensures.grows _ _ c.in_ok-q.ensures.word

pub returns-clause-pairs : goal.returns-clause-pairs
returns-clause-pairs c =
    grows-pairs _ _ c.then.ensures.grows _ _ c.in_ok-q.ensures.word
    ∙ c.in_ok-q.ensures.pairs
    ∙ ap (λ ps. raised_runs ps c.args.z.now) (grows-pairs _ _ c.from_natural.ensures.grows _ _ c.requires.word)

pub returns-clause-turns : goal.returns-clause-turns
returns-clause-turns c =
    let t = c.in_ok-turns.ensures.turns _ _ _ _ (grows-turns _ _ c.raise.ensures.grows _ _ _ _ (rw c.whole-all.ensures.tree at c.in_ok-r.ensures.turns))
    (turns-cast _ _ _ _ _ _ _ (ap (λ t. integer_power_tree c.args.h.sort t (whole_tree Int c.args.z.now)) (word-later _ _ c.from_natural.ensures.grows _ _ c.requires.word)) refl c.in_ok-q.ensures.turns) in
    (after _ _ _ _ _ _ _ c.then.ensures.grows c.in_ok-q.ensures.word refl t).turns
