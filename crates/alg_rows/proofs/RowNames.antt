-- Rows found by their names, and what their lines ask.
use Rattle.alg_law.proofs.Named.{zero_add-named, add_zero-named, one_mul-named, mul_one-named, zero_mul-named, mul_zero-named, right_distrib-named, pow_zero-named, one_pow-named, inv_zero-named}
use Rattle.alg_lemma.proofs.Named.{neg_neg-named, neg_zero-named, neg_add_neg_lit-named, add_neg_pos-named, add_neg_neg-named, neg_add_pos-named, neg_add_negr-named, sub_eq_of_add-named, sub_of_neg-named, sub_mul-named, neg_mul_lit-named, mul_neg_lit-named, neg_mul_neg-named, pow_one-named, pow_double-named, pow_next-named, div_pow-named, zpow_neg_lit0-named, zsmul_neg_lit-named, one_inv0-named, inv_eq_one_div-named, div_inv0-named, one_div_inv0-named, neg_inv_lit-named, eq_of_mul-named, div_one0-named, div_of_inv-named, neg_div-named, div_split-named, div_join-named, div_expand-named, eq_div_of_mul-named, div_mul_lit-named, div_add_same-named, div_mul_swap-named, div_mul_div-named, mul_div_right-named, mul_div_left-named, mul_div_comm-named, div_ne_zero-named, neg_ne_neg-named, neg_ne_pos-named, pos_ne_neg-named, ne_of_mul-named, div_pos-named, neg_lt_neg-named, neg_le_neg-named, neg_lt_nonneg-named, neg_le_nonneg-named, lt_of_mul-named, le_of_mul-named}
use Rattle.alg_build.proofs.RowFacts.{row_facts, proves-concludes}

pub ruleset sums = (row_facts, proves-concludes, zero_add-named, add_zero-named, neg_neg-named, neg_zero-named, neg_add_neg_lit-named, add_neg_pos-named, add_neg_neg-named, neg_add_pos-named, neg_add_negr-named, sub_eq_of_add-named, sub_of_neg-named)

pub ruleset products = (row_facts, proves-concludes, one_mul-named, mul_one-named, zero_mul-named, mul_zero-named, right_distrib-named, sub_mul-named, neg_mul_lit-named, mul_neg_lit-named, neg_mul_neg-named)

pub ruleset powers = (row_facts, proves-concludes, pow_zero-named, pow_one-named, one_pow-named, pow_double-named, pow_next-named, div_pow-named, zpow_neg_lit0-named, zsmul_neg_lit-named)

pub ruleset inverses = (row_facts, proves-concludes, inv_zero-named, one_inv0-named, inv_eq_one_div-named, div_inv0-named, one_div_inv0-named, neg_inv_lit-named)

pub ruleset quotients = (row_facts, proves-concludes, eq_of_mul-named, div_one0-named, div_of_inv-named, neg_div-named, div_split-named, div_join-named, div_expand-named, eq_div_of_mul-named, div_mul_lit-named)

pub ruleset fractions = (row_facts, proves-concludes, div_add_same-named, div_mul_swap-named, div_mul_div-named, mul_div_right-named, mul_div_left-named, mul_div_comm-named)

pub ruleset inequations = (row_facts, proves-concludes, div_ne_zero-named, neg_ne_neg-named, neg_ne_pos-named, pos_ne_neg-named, ne_of_mul-named)

pub ruleset comparisons = (row_facts, proves-concludes, div_pos-named, neg_lt_neg-named, neg_le_neg-named, neg_lt_nonneg-named, neg_le_nonneg-named, lt_of_mul-named, le_of_mul-named)
