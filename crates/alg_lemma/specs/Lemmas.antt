-- The table of the lemmas. Most names are those of Mathlib.
use Rattle.std.specs.Prelude.{List, [], ◌∷◌}
use Rattle.alg_law.specs.Rows.{Row}
use Rattle.alg_law.specs.Laws.{rows_in}
use Rattle.alg_lemma.specs.FirstLemmas.{first_lemmas}
use Rattle.alg_lemma.specs.RearrangingLemmas.{rearranging_lemmas}
use Rattle.alg_lemma.specs.NegationLemmas.{negation_lemmas}
use Rattle.alg_lemma.specs.SignLemmas.{sign_lemmas}
use Rattle.alg_lemma.specs.InverseLemmas.{inverse_lemmas}
use Rattle.alg_lemma.specs.QuotientLemmas.{quotient_lemmas}
use Rattle.alg_lemma.specs.FractionLemmas.{fraction_lemmas}
use Rattle.alg_lemma.specs.FractionProductLemmas.{fraction_product_lemmas}
use Rattle.alg_lemma.specs.FractionPowerLemmas.{fraction_power_lemmas}
use Rattle.alg_lemma.specs.InequationLemmas.{inequation_lemmas}
use Rattle.alg_lemma.specs.ComparisonLemmas.{comparison_lemmas}
use Rattle.alg_lemma.specs.NodeSumLemmas.{node_sum_lemmas}
use Rattle.alg_lemma.specs.NodePairLemmas.{node_pair_lemmas}
use Rattle.alg_lemma.specs.NodeProductLemmas.{node_product_lemmas}
use Rattle.alg_lemma.specs.MergingLemmas.{merging_lemmas}
use Rattle.alg_lemma.specs.WrittenTermLemmas.{written_term_lemmas}
use Rattle.alg_lemma.specs.CombinationLemmas.{combination_lemmas}
use Rattle.alg_lemma.specs.MultipleLemmas.{multiple_lemmas}
use Rattle.alg_lemma.specs.MultipleSumLemmas.{multiple_sum_lemmas}
use Rattle.alg_lemma.specs.WordLemmas.{word_lemmas}
use Rattle.alg_lemma.specs.PositivityLemmas.{positivity_lemmas}
use Rattle.alg_lemma.specs.FactorLemmas.{factor_lemmas}
use Rattle.alg_lemma.specs.CommutingLemmas.{commuting_lemmas}
use Rattle.alg_lemma.specs.JoinedInequalityLemmas.{joined_inequality_lemmas}
use Rattle.alg_lemma.specs.RestLemmas.{rest_lemmas}
use Rattle.alg_lemma.specs.ExponentLemmas.{exponent_lemmas}
use Rattle.alg_lemma.specs.IntegerPowerLemmas.{integer_power_lemmas}

unfoldable pub lemma_groups : List (List Row)
lemma_groups = first_lemmas ∷ rearranging_lemmas ∷ negation_lemmas ∷ sign_lemmas ∷ inverse_lemmas ∷ quotient_lemmas ∷ fraction_lemmas ∷ fraction_product_lemmas ∷ fraction_power_lemmas ∷ inequation_lemmas ∷ comparison_lemmas ∷ node_sum_lemmas ∷ node_pair_lemmas ∷ node_product_lemmas ∷ merging_lemmas ∷ written_term_lemmas ∷ combination_lemmas ∷ multiple_lemmas ∷ multiple_sum_lemmas ∷ word_lemmas ∷ positivity_lemmas ∷ factor_lemmas ∷ commuting_lemmas ∷ joined_inequality_lemmas ∷ rest_lemmas ∷ exponent_lemmas ∷ integer_power_lemmas ∷ []

-- the lemmas, one group after another
unfoldable pub lemma_table : List Row
unfolding lemma_groups
lemma_table = rows_in lemma_groups
