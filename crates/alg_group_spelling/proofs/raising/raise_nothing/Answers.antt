use Rattle.std.proofs.Common.{ap, refl, subst, sym, ◌∙◌}
use Rattle.alg_terms.specs.declared.sorts.Sort.TheVariants.{Int}
use Rattle.alg_rows.specs.Operations.{integer_power_tree}
use Rattle.alg_numerals.specs.WholeTree.{whole_tree}
use Rattle.alg_group_words.specs.Syllables.{raised_runs}
use Rattle.alg_group_stack.specs.Words.{IsWord, pairs_of, word_tree}
use Rattle.alg_group_stack.proofs.Homes.{own-stands}
use Rattle.alg_group_stack.proofs.StepLemmas.{turns-cast}
use Rattle.alg_group_spelling.proofs.RaiseLemmas.{empty-word, raised-none}
use Rattle.alg_group_spelling.proofs.raising.raise_nothing.Goals as goal

pub one_zpow-requires-clause-i_stands : goal.one_zpow-requires-clause-i_stands
one_zpow-requires-clause-i_stands c = own-stands _ _ _ _ c.in_ok-k.ensures.stands

pub returns-clause-word : goal.returns-clause-word
returns-clause-word c = subst (λ xs. IsWord c.one_zpow.new.cx c.args.h.sort xs) (sym c.new-word.ensures.items) (empty-word _ _)

pub returns-clause-pairs : goal.returns-clause-pairs
returns-clause-pairs c = ap (pairs_of c.one_zpow.new.cx) c.new-word.ensures.items ∙ sym (raised-none c.args.z.now) ∙ ap (λ xs. raised_runs (pairs_of c.args.cx.now xs) c.args.z.now) (sym c.requires.nothing)

pub returns-clause-turns : goal.returns-clause-turns
returns-clause-turns c =
    turns-cast _ _ _ _ _ _ _
    (λ i. integer_power_tree c.args.h.sort (word_tree c.args.h.sort (pairs_of c.args.cx.now (sym c.requires.nothing i))) (c.in_ok-k.ensures.stands.tree i))
    (ap (λ xs. word_tree c.args.h.sort (pairs_of c.one_zpow.new.cx xs)) (sym c.new-word.ensures.items))
    c.in_ok-turns.ensures.turns
