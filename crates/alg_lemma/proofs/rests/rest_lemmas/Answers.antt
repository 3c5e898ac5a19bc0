use Rattle.std.proofs.Common.{refl}
use Rattle.alg_law.specs.Laws.{law_table, law_groups}
use Rattle.alg_law.specs.AdditiveLaws.{sum_laws, multiple_laws}
use Rattle.alg_law.specs.MultiplicativeLaws.{product_laws, power_laws}
use Rattle.alg_law.specs.RingLaws.{semiring_laws, field_laws, unequal_laws}
use Rattle.alg_law.specs.OrderLaws.{order_laws, min_max_laws}
use Rattle.alg_law.specs.OrderedRingLaws.{ordered_semiring_laws, ordered_ring_laws}
use Rattle.alg_lemma.specs.FirstLemmas.{first_lemmas}
use Rattle.alg_lemma.specs.RearrangingLemmas.{rearranging_lemmas}
use Rattle.alg_lemma.specs.NegationLemmas.{negation_lemmas}
use Rattle.alg_lemma.specs.SignLemmas.{sign_lemmas}
use Rattle.alg_lemma.specs.InverseLemmas.{inverse_lemmas}
use Rattle.alg_lemma.specs.QuotientLemmas.{quotient_lemmas}
use Rattle.alg_lemma.specs.FractionLemmas.{fraction_lemmas}
use Rattle.alg_lemma.specs.FractionProductLemmas.{fraction_product_lemmas}
use Rattle.alg_lemma.specs.FractionPowerLemmas.{fraction_power_lemmas}
use Rattle.alg_lemma.specs.InequationLemmas.{inequation_lemmas}
use Rattle.alg_lemma.specs.ComparisonLemmas.{comparison_lemmas}
use Rattle.alg_lemma.specs.NodeSumLemmas.{node_sum_lemmas}
use Rattle.alg_lemma.specs.NodePairLemmas.{node_pair_lemmas}
use Rattle.alg_lemma.specs.NodeProductLemmas.{node_product_lemmas}
use Rattle.alg_lemma.specs.MergingLemmas.{merging_lemmas}
use Rattle.alg_lemma.specs.WrittenTermLemmas.{written_term_lemmas}
use Rattle.alg_lemma.specs.CombinationLemmas.{combination_lemmas}
use Rattle.alg_lemma.specs.MultipleLemmas.{multiple_lemmas}
use Rattle.alg_lemma.specs.MultipleSumLemmas.{multiple_sum_lemmas}
use Rattle.alg_lemma.specs.WordLemmas.{word_lemmas}
use Rattle.alg_lemma.specs.PositivityLemmas.{positivity_lemmas}
use Rattle.alg_lemma.specs.FactorLemmas.{factor_lemmas}
use Rattle.alg_lemma.specs.CommutingLemmas.{commuting_lemmas}
use Rattle.alg_lemma.specs.JoinedInequalityLemmas.{joined_inequality_lemmas}
use Rattle.alg_lemma.specs.RestLemmas.{rest_lemmas}
use Rattle.alg_lemma.proofs.rests.rest_lemmas.Goals as goal

pub returns-clause-rows : goal.returns-clause-rows
unfolding rest_lemmas
returns-clause-rows c = refl

pub returns-clause-proved : goal.returns-clause-proved
unfolding law_table law_groups sum_laws multiple_laws product_laws power_laws semiring_laws field_laws unequal_laws order_laws min_max_laws ordered_semiring_laws ordered_ring_laws first_lemmas rearranging_lemmas negation_lemmas sign_lemmas inverse_lemmas quotient_lemmas fraction_lemmas fraction_product_lemmas fraction_power_lemmas inequation_lemmas comparison_lemmas node_sum_lemmas node_pair_lemmas node_product_lemmas merging_lemmas written_term_lemmas combination_lemmas multiple_lemmas multiple_sum_lemmas word_lemmas positivity_lemmas factor_lemmas commuting_lemmas joined_inequality_lemmas
returns-clause-proved c = refl
