use Rattle.std.proofs.Common.{refl}
use Rattle.alg_law.specs.Laws.{law_table, law_groups}
use Rattle.alg_law.specs.AdditiveLaws.{sum_laws, multiple_laws}
use Rattle.alg_law.specs.MultiplicativeLaws.{product_laws, power_laws}
use Rattle.alg_law.specs.RingLaws.{semiring_laws, field_laws, unequal_laws}
use Rattle.alg_law.specs.OrderLaws.{order_laws, min_max_laws}
use Rattle.alg_law.specs.OrderedRingLaws.{ordered_semiring_laws, ordered_ring_laws}
use Rattle.alg_lemma.specs.FirstLemmas.{first_lemmas}
use Rattle.alg_lemma.specs.RearrangingLemmas.{rearranging_lemmas}
use Rattle.alg_lemma.specs.NegationLemmas.{negation_lemmas}
use Rattle.alg_lemma.specs.SignLemmas.{sign_lemmas}
use Rattle.alg_lemma.specs.InverseLemmas.{inverse_lemmas}
use Rattle.alg_lemma.specs.QuotientLemmas.{quotient_lemmas}
use Rattle.alg_lemma.specs.FractionLemmas.{fraction_lemmas}
use Rattle.alg_lemma.specs.FractionProductLemmas.{fraction_product_lemmas}
use Rattle.alg_lemma.specs.FractionPowerLemmas.{fraction_power_lemmas}
use Rattle.alg_lemma.specs.InequationLemmas.{inequation_lemmas}
use Rattle.alg_lemma.specs.ComparisonLemmas.{comparison_lemmas}
use Rattle.alg_lemma.proofs.comparisons.comparison_lemmas.Goals as goal

pub returns-clause-rows : goal.returns-clause-rows
unfolding comparison_lemmas
returns-clause-rows c = refl

pub returns-clause-proved : goal.returns-clause-proved
unfolding law_table law_groups sum_laws multiple_laws product_laws power_laws semiring_laws field_laws unequal_laws order_laws min_max_laws ordered_semiring_laws ordered_ring_laws first_lemmas rearranging_lemmas negation_lemmas sign_lemmas inverse_lemmas quotient_lemmas fraction_lemmas fraction_product_lemmas fraction_power_lemmas inequation_lemmas
returns-clause-proved c = refl
