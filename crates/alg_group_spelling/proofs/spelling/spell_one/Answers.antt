use Rattle.std.proofs.Common.{ap, refl, subst, sym}
use Rattle.alg_group_stack.specs.Words.{IsWord, pairs_of, word_tree}
use Rattle.alg_group_stack.proofs.StepLemmas.{turns-cast}
use Rattle.alg_group_spelling.proofs.RaiseLemmas.{empty-word}
use Rattle.alg_group_spelling.proofs.spelling.spell_one.Goals as goal

pub returns-clause-spells : goal.returns-clause-spells
returns-clause-spells c = record {
  word = subst (λ xs. IsWord c.args.cx.now c.args.h.sort xs) (sym c.new.ensures.items) (empty-word _ _);
  turns = turns-cast _ _ _ _ _ _ _ refl (ap (λ xs. word_tree c.args.h.sort (pairs_of c.args.cx.now xs)) (sym c.new.ensures.items)) (c.keep-turns.ensures _ _ c.requires.home.one);
}

pub returns-clause-pairs : goal.returns-clause-pairs
returns-clause-pairs c = ap (pairs_of c.args.cx.now) c.new.ensures.items
