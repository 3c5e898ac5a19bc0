use Rattle.std.proofs.Common.{ap, refl, subst, sym, ◌∙◌}
use Rattle.alg_terms.specs.declared.sorts.Sort.TheVariants.{Int}
use Rattle.alg_rows.specs.Operations.{integer_power_tree}
use Rattle.alg_numerals.specs.WholeTree.{whole_tree}
use Rattle.alg_group_words.specs.Syllables.{raised_runs}
use Rattle.alg_group_stack.specs.Words.{IsWord, pairs_of, word_tree}
use Rattle.alg_group_stack.proofs.Homes.{own-stands}
use Rattle.alg_group_stack.proofs.StepLemmas.{turns-cast}
use Rattle.alg_group_spelling.proofs.RaiseLemmas.{empty-word, raised-zero, whole-zero}
use Rattle.alg_group_spelling.proofs.raising.raise_to_one.Goals as goal

pub zero_power-requires-clause-base : goal.zero_power-requires-clause-base
zero_power-requires-clause-base c = own-stands _ _ _ _ c.whole-all.ensures

pub returns-clause-word : goal.returns-clause-word
returns-clause-word c = subst (λ xs. IsWord c.zero_power.new.cx c.args.h.sort xs) (sym c.new-word.ensures.items) (empty-word _ _)

pub returns-clause-pairs : goal.returns-clause-pairs
returns-clause-pairs c = ap (pairs_of c.zero_power.new.cx) c.new-word.ensures.items ∙ sym (raised-zero _) ∙ ap (raised_runs (pairs_of c.args.cx.now c.args.w.now)) (sym c.requires.zero)

pub returns-clause-turns : goal.returns-clause-turns
returns-clause-turns c =
    turns-cast _ _ _ _ _ _ _
    (λ i. integer_power_tree c.args.h.sort (c.whole-all.ensures.tree i) (sym (whole-zero _ c.requires.zero) i))
    (ap (λ xs. word_tree c.args.h.sort (pairs_of c.zero_power.new.cx xs)) (sym c.new-word.ensures.items))
    c.in_ok-turns.ensures.turns
