use Rattle.std.proofs.Common.{ap, sym, refl}
use Rattle.alg_terms.specs.Tree.{sort_of_tree}
use Rattle.alg_sums.specs.Rational.{rational}
use Rattle.alg_expansions.specs.Setting.{setting_of}
use Rattle.alg_expansions.specs.NormalTree.{normal_tree}
use Rattle.alg_expansions.proofs.NormalForms.{normal_form-again, normal_form-sort, normal_form-good, normal_form-polynomial}
use Rattle.alg_expansions.proofs.SameExpansions.{same_polynomial, polynomial_same, normal_tree_apart}
use Rattle.alg_expansions.proofs.NumeralExponents.{numeral-prepared}
use Rattle.alg_expansions.proofs.Weights.{polynomial_within}
use Rattle.alg_expansions.proofs.Degrees.{polynomial_degree}
use Rattle.alg_expansions.proofs.expansion_laws.Goals as goal

pub returns-clause-stay : goal.returns-clause-stay
returns-clause-stay c = λ ds t w. normal_form-again rational ds t w

pub returns-clause-well_sorted : goal.returns-clause-well_sorted
returns-clause-well_sorted c = λ ds t w. (normal_form-good rational ds t w, normal_form-sort rational ds t w)

pub returns-clause-denote : goal.returns-clause-denote
returns-clause-denote c = λ ds t w i. normal_form-polynomial rational ds t w i

pub returns-clause-decide : goal.returns-clause-decide
returns-clause-decide c = λ ds t u w v e. (
  λ h. ap (normal_tree rational (sort_of_tree t)) (same_polynomial rational (setting_of ds) t u h),
  λ q. polynomial_same rational (setting_of ds) t u (normal_tree_apart rational ds (sort_of_tree t) t u w v refl (sym e) q),
)

pub returns-clause-weights : goal.returns-clause-weights
returns-clause-weights c = λ k t. polynomial_within rational k t

pub returns-clause-degrees : goal.returns-clause-degrees
returns-clause-degrees c = λ k t. polynomial_degree rational k t

pub returns-clause-numerals : goal.returns-clause-numerals
returns-clause-numerals c = λ k t n e. numeral-prepared rational k t n e
