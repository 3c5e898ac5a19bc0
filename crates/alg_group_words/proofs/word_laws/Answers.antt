use Rattle.std.proofs.Common.{refl}
use Rattle.alg_terms.specs.Tree.{sort_of_tree}
use Rattle.alg_group_words.proofs.Reduced.{one_end, reached, reduced-IsReduced}
use Rattle.alg_group_words.proofs.Trees.{spelled-syllables, same_syllables, syllables_same}
use Rattle.alg_group_words.proofs.NormalTrees.{normal_form-again, word-normal_form, same_normal_form, normal_form_same}
use Rattle.alg_group_words.proofs.Good.{IsGood, normal_form_good}
use Rattle.alg_group_words.proofs.Weights.{length-letters, syllables_within}
use Rattle.alg_group_words.proofs.word_laws.Goals as goal

pub returns-clause-order : goal.returns-clause-order
returns-clause-order c = λ w u v h i d j. one_end w u v h d i j

pub returns-clause-reached : goal.returns-clause-reached
returns-clause-reached c = λ w. (reached w, reduced-IsReduced w)

pub returns-clause-syllables : goal.returns-clause-syllables
returns-clause-syllables c = λ value t u. (spelled-syllables value t, (same_syllables value t u, syllables_same value t u))

pub returns-clause-stay : goal.returns-clause-stay
returns-clause-stay c = λ value s t n. normal_form-again value n s t

pub returns-clause-denote : goal.returns-clause-denote
returns-clause-denote c = λ value s t n. word-normal_form value n s t

pub returns-clause-decide : goal.returns-clause-decide
returns-clause-decide c = λ value s t u n. (same_normal_form value n s t u, normal_form_same value n s t u)

pub returns-clause-well_sorted : goal.returns-clause-well_sorted
returns-clause-well_sorted c = λ ds value t group well. let h : IsGood ds (sort_of_tree t) _ = normal_form_good ds value (sort_of_tree t) t refl group well in (h.good, h.sort)

pub returns-clause-weights : goal.returns-clause-weights
returns-clause-weights c = λ value t. length-letters value t

pub returns-clause-exponents : goal.returns-clause-exponents
returns-clause-exponents c = λ value t. syllables_within value t
