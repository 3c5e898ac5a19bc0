use Rattle.std.proofs.Common.{pos, ap, refl, sym, ◌∙◌}
use Rattle.alg_terms.specs.declared.sorts.Sort.TheVariants.{Nat}
use Rattle.alg_terms.specs.Tree.{Lit}
use Rattle.alg_build.proofs.Rewritings.{follows, grows-turns}
use Rattle.alg_rows.specs.Operations.{power_tree}
use Rattle.alg_group_words.specs.Syllables.{raised_runs}
use Rattle.alg_group_stack.proofs.Homes.{own-stands}
use Rattle.alg_group_stack.proofs.WordLemmas.{grows-pairs, grows-word}
use Rattle.alg_group_stack.proofs.StepLemmas.{after, turns-cast, word-later}
use Rattle.alg_group_spelling.proofs.RaiseLemmas.{runs-later, size-later}
use Rattle.alg_group_spelling.proofs.raising.raise_above.Goals as goal

pub natural_power-requires-clause-base : goal.natural_power-requires-clause-base
natural_power-requires-clause-base c = own-stands _ _ _ _ c.whole-all.ensures

pub raise_by_products-requires-clause-word : goal.raise_by_products-requires-clause-word
raise_by_products-requires-clause-word c = grows-word _ _ c.natural_power.ensures.grows _ _ c.requires.word

pub raise_by_products-requires-clause-runs : goal.raise_by_products-requires-clause-runs
raise_by_products-requires-clause-runs c = runs-later _ _ c.natural_power.ensures.grows _ _ c.requires.word c.requires.runs

pub raise_by_products-requires-clause-room : goal.raise_by_products-requires-clause-room
raise_by_products-requires-clause-room c = size-later _ _ c.natural_power.ensures.grows _ _ c.requires.word _ c.requires.room

pub then-requires : goal.then-requires
then-requires c =
    follows _ _ _ _ _ _ _ (grows-turns _ _ c.raise_by_products.ensures.grows _ _ _ _ (rw c.whole-all.ensures.tree at c.in_ok-r.ensures.turns))
    (turns-cast _ _ _ _ _ _ _ (ap (λ t. power_tree c.args.h.sort t (Lit Nat c.args.n)) (word-later _ _ c.natural_power.ensures.grows _ _ c.requires.word)) refl c.in_ok-up.ensures.turns)

pub returns-clause-word : goal.returns-clause-word
returns-clause-word c = grows-word _ _ c.then.ensures.grows _ _ c.in_ok-up.ensures.word

pub returns-clause-pairs : goal.returns-clause-pairs
returns-clause-pairs c =
    grows-pairs _ _ c.then.ensures.grows _ _ c.in_ok-up.ensures.word
    ∙ c.in_ok-up.ensures.pairs
    ∙ ap (λ ps. raised_runs ps (pos c.args.n)) (grows-pairs _ _ c.natural_power.ensures.grows _ _ c.requires.word)

pub returns-clause-turns : goal.returns-clause-turns
returns-clause-turns c =
    let t = c.in_ok-turns.ensures.turns _ _ _ _ (grows-turns _ _ c.raise_by_products.ensures.grows _ _ _ _ (rw c.whole-all.ensures.tree at c.in_ok-r.ensures.turns))
    (turns-cast _ _ _ _ _ _ _ (ap (λ t. power_tree c.args.h.sort t (Lit Nat c.args.n)) (word-later _ _ c.natural_power.ensures.grows _ _ c.requires.word)) refl c.in_ok-up.ensures.turns) in
    (after _ _ _ _ _ _ _ c.then.ensures.grows c.in_ok-up.ensures.word refl t).turns
