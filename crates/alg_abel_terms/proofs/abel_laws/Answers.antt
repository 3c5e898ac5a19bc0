use Rattle.std.proofs.Common.{refl}
use Rattle.alg_terms.specs.Tree.{sort_of_tree}
use Rattle.alg_abel_terms.proofs.NormalTrees.{combination-normal_form, normal_form-again}
use Rattle.alg_abel_terms.proofs.SameCombinations.{normal_form_same, same_normal_form}
use Rattle.alg_abel_terms.proofs.Weights.{combination_within}
use Rattle.alg_abel_terms.proofs.WellSortedForms.{normal_form_good}
use Rattle.alg_abel_terms.proofs.abel_laws.Goals as goal

pub returns-clause-stay : goal.returns-clause-stay
returns-clause-stay c = λ value l s t. normal_form-again value l s t

pub returns-clause-denote : goal.returns-clause-denote
returns-clause-denote c = λ value l s t. combination-normal_form value l s t

pub returns-clause-decide : goal.returns-clause-decide
returns-clause-decide c = λ value l s t u. (λ h. normal_form_same value s t u h, λ e. same_normal_form value l s t u e)

pub returns-clause-well_sorted : goal.returns-clause-well_sorted
returns-clause-well_sorted c = λ ds value n t m w. (let g = normal_form_good ds value n (sort_of_tree t) t refl m w in (g.good, g.sort))

pub returns-clause-weights : goal.returns-clause-weights
returns-clause-weights c = λ value t. combination_within value t

pub returns-clause-literals : goal.returns-clause-literals
returns-clause-literals c = λ ds n. refl
