use Rattle.std.proofs.Common.{refl, sym, ◌∙◌, ap}
use Rattle.alg_build.proofs.Rewritings.{grows-stands}
use Rattle.alg_rows.specs.Operations.{inverse_tree, quotient_tree}
use Rattle.alg_terms.specs.Tree.{product_tree}
use Rattle.alg_group_stack.proofs.Homes.{own-stands, own-turns}
use Rattle.alg_group_stack.proofs.WordLemmas.{grows-pairs, grows-word}
use Rattle.alg_group_stack.proofs.StepLemmas.{turns-cast, word-later}
use Rattle.alg_group_spelling.proofs.spelling.spell_quotient.Goals as goal

pub as_quotient-requires-clause-left : goal.as_quotient-requires-clause-left
as_quotient-requires-clause-left c = own-stands _ _ _ _ (grows-stands _ _ c.spell_product_with_inverse.ensures.grows _ _ _ c.requires.left_stands)

pub as_quotient-requires-clause-right : goal.as_quotient-requires-clause-right
as_quotient-requires-clause-right c = own-stands _ _ _ _ (grows-stands _ _ c.spell_product_with_inverse.ensures.grows _ _ _ c.requires.right_stands)

pub as_quotient-requires-clause-turns : goal.as_quotient-requires-clause-turns
as_quotient-requires-clause-turns c =
    let a = (grows-stands _ _ c.spell_product_with_inverse.ensures.grows _ _ _ c.requires.left_stands).tree in
    let b = (grows-stands _ _ c.spell_product_with_inverse.ensures.grows _ _ _ c.requires.right_stands).tree in
    rw (a, b) (own-turns _ _ _ _ _ c.in_ok-q.ensures.spells.turns)

pub returns-clause-spells : goal.returns-clause-spells
returns-clause-spells c =
    let a = (grows-stands _ _ c.spell_product_with_inverse.ensures.grows _ _ _ c.requires.left_stands).tree in
    let b = (grows-stands _ _ c.spell_product_with_inverse.ensures.grows _ _ _ c.requires.right_stands).tree in
    record {
      word = grows-word _ _ c.as_quotient.ensures.grows _ _ c.in_ok-q.ensures.spells.word;
      turns = turns-cast _ _ _ _ _ _ _ (λ i. quotient_tree c.args.h.sort (a i) (b i)) (c.in_ok-q.ensures.spells.turns.tree ∙ sym (word-later _ _ c.as_quotient.ensures.grows _ _ c.in_ok-q.ensures.spells.word)) c.in_ok-turns.ensures.turns;
    }

pub returns-clause-pairs : goal.returns-clause-pairs
returns-clause-pairs c = grows-pairs _ _ c.as_quotient.ensures.grows _ _ c.in_ok-q.ensures.spells.word ∙ c.in_ok-q.ensures.pairs
