use Rattle.std.proofs.Common.{refl}
use Rattle.alg_lemma.specs.Lemmas.{lemma_groups}
use Rattle.alg_lemma.proofs.tables.lemmas.Goals as goal

pub returns-clause-rows : goal.returns-clause-rows
unfolding lemma_groups
returns-clause-rows c = rw (c.first_lemmas.ensures.rows, c.rearranging_lemmas.ensures.rows, c.negation_lemmas.ensures.rows, c.sign_lemmas.ensures.rows, c.inverse_lemmas.ensures.rows, c.quotient_lemmas.ensures.rows, c.fraction_lemmas.ensures.rows, c.fraction_product_lemmas.ensures.rows, c.fraction_power_lemmas.ensures.rows, c.inequation_lemmas.ensures.rows, c.comparison_lemmas.ensures.rows, c.node_sum_lemmas.ensures.rows, c.node_pair_lemmas.ensures.rows, c.node_product_lemmas.ensures.rows, c.merging_lemmas.ensures.rows, c.written_term_lemmas.ensures.rows, c.combination_lemmas.ensures.rows, c.multiple_lemmas.ensures.rows, c.multiple_sum_lemmas.ensures.rows, c.word_lemmas.ensures.rows, c.positivity_lemmas.ensures.rows, c.factor_lemmas.ensures.rows, c.commuting_lemmas.ensures.rows, c.joined_inequality_lemmas.ensures.rows, c.rest_lemmas.ensures.rows, c.exponent_lemmas.ensures.rows, c.integer_power_lemmas.ensures.rows) refl

pub returns-clause-proved : goal.returns-clause-proved
returns-clause-proved c = rw (c.first_lemmas.ensures.rows, c.first_lemmas.ensures.proved, c.rearranging_lemmas.ensures.rows, c.rearranging_lemmas.ensures.proved, c.negation_lemmas.ensures.rows, c.negation_lemmas.ensures.proved, c.sign_lemmas.ensures.rows, c.sign_lemmas.ensures.proved, c.inverse_lemmas.ensures.rows, c.inverse_lemmas.ensures.proved, c.quotient_lemmas.ensures.rows, c.quotient_lemmas.ensures.proved, c.fraction_lemmas.ensures.rows, c.fraction_lemmas.ensures.proved, c.fraction_product_lemmas.ensures.rows, c.fraction_product_lemmas.ensures.proved, c.fraction_power_lemmas.ensures.rows, c.fraction_power_lemmas.ensures.proved, c.inequation_lemmas.ensures.rows, c.inequation_lemmas.ensures.proved, c.comparison_lemmas.ensures.rows, c.comparison_lemmas.ensures.proved, c.node_sum_lemmas.ensures.rows, c.node_sum_lemmas.ensures.proved, c.node_pair_lemmas.ensures.rows, c.node_pair_lemmas.ensures.proved, c.node_product_lemmas.ensures.rows, c.node_product_lemmas.ensures.proved, c.merging_lemmas.ensures.rows, c.merging_lemmas.ensures.proved, c.written_term_lemmas.ensures.rows, c.written_term_lemmas.ensures.proved, c.combination_lemmas.ensures.rows, c.combination_lemmas.ensures.proved, c.multiple_lemmas.ensures.rows, c.multiple_lemmas.ensures.proved, c.multiple_sum_lemmas.ensures.rows, c.multiple_sum_lemmas.ensures.proved, c.word_lemmas.ensures.rows, c.word_lemmas.ensures.proved, c.positivity_lemmas.ensures.rows, c.positivity_lemmas.ensures.proved, c.factor_lemmas.ensures.rows, c.factor_lemmas.ensures.proved, c.commuting_lemmas.ensures.rows, c.commuting_lemmas.ensures.proved, c.joined_inequality_lemmas.ensures.rows, c.joined_inequality_lemmas.ensures.proved, c.rest_lemmas.ensures.rows, c.rest_lemmas.ensures.proved, c.exponent_lemmas.ensures.rows, c.exponent_lemmas.ensures.proved, c.integer_power_lemmas.ensures.proved) refl
