-- Lemmas by their names.
use Rattle.std.specs.Prelude.{◌≡◌, true, Some, Contains, refl}
use Rattle.alg_law.specs.Rows.{Row}
use Rattle.alg_law.specs.Laws.{row_named}
use Rattle.alg_law.specs.RowNames.{are_apart}
use Rattle.alg_law.proofs.RowNameLaws.{own}
use Rattle.alg_lemma.specs.FirstLemmas.{first_lemmas}
use Rattle.alg_lemma.specs.RearrangingLemmas.{rearranging_lemmas}
use Rattle.alg_lemma.specs.NegationLemmas.{negation_lemmas}
use Rattle.alg_lemma.specs.SignLemmas.{sign_lemmas}
use Rattle.alg_lemma.specs.InverseLemmas.{inverse_lemmas}
use Rattle.alg_lemma.specs.QuotientLemmas.{quotient_lemmas}
use Rattle.alg_lemma.specs.FractionLemmas.{fraction_lemmas}
use Rattle.alg_lemma.specs.FractionProductLemmas.{fraction_product_lemmas}
use Rattle.alg_lemma.specs.FractionPowerLemmas.{fraction_power_lemmas}
use Rattle.alg_lemma.specs.InequationLemmas.{inequation_lemmas}
use Rattle.alg_lemma.specs.ComparisonLemmas.{comparison_lemmas}
use Rattle.alg_lemma.specs.NodeSumLemmas.{node_sum_lemmas}
use Rattle.alg_lemma.specs.NodePairLemmas.{node_pair_lemmas}
use Rattle.alg_lemma.specs.NodeProductLemmas.{node_product_lemmas}
use Rattle.alg_lemma.specs.MergingLemmas.{merging_lemmas}
use Rattle.alg_lemma.specs.WrittenTermLemmas.{written_term_lemmas}
use Rattle.alg_lemma.specs.CombinationLemmas.{combination_lemmas}
use Rattle.alg_lemma.specs.MultipleLemmas.{multiple_lemmas}
use Rattle.alg_lemma.specs.MultipleSumLemmas.{multiple_sum_lemmas}
use Rattle.alg_lemma.specs.WordLemmas.{word_lemmas}
use Rattle.alg_lemma.specs.PositivityLemmas.{positivity_lemmas}
use Rattle.alg_lemma.specs.FactorLemmas.{factor_lemmas}
use Rattle.alg_lemma.specs.CommutingLemmas.{commuting_lemmas}
use Rattle.alg_lemma.specs.JoinedInequalityLemmas.{joined_inequality_lemmas}
use Rattle.alg_lemma.specs.RestLemmas.{rest_lemmas}
use Rattle.alg_lemma.specs.ExponentLemmas.{exponent_lemmas}
use Rattle.alg_lemma.specs.IntegerPowerLemmas.{integer_power_lemmas}
use Rattle.alg_lemma.specs.Lemmas.{lemma_groups, lemma_table}

table-apart : are_apart lemma_table ≡ true
unfolding lemma_table lemma_groups first_lemmas rearranging_lemmas negation_lemmas sign_lemmas inverse_lemmas quotient_lemmas fraction_lemmas fraction_product_lemmas fraction_power_lemmas inequation_lemmas comparison_lemmas node_sum_lemmas node_pair_lemmas node_product_lemmas merging_lemmas written_term_lemmas combination_lemmas multiple_lemmas multiple_sum_lemmas word_lemmas positivity_lemmas factor_lemmas commuting_lemmas joined_inequality_lemmas rest_lemmas exponent_lemmas integer_power_lemmas
table-apart = refl

-- each lemma of the table is found by its name
pub lemma_named-own : (r : Row) → Contains lemma_table r → row_named lemma_table r.name ≡ Some r
lemma_named-own r i = own lemma_table r table-apart i
