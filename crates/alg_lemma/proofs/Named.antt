-- Each lemma of the library, found by its name.
use Rattle.std.specs.Prelude.{◌≡◌, List, Some, codes, refl}
use Rattle.alg_law.specs.Rows.{Row}
use Rattle.alg_law.specs.Laws.{row_named}
use Rattle.alg_proof.proofs.InstanceLaws.{row_named-contains}
use Rattle.alg_lemma.specs.Lemmas.{lemma_groups, lemma_table}
use Rattle.alg_lemma.specs.Library.{HoldsLibrary}
use Rattle.alg_lemma.proofs.LemmaNames.{lemma_named-own}
use Rattle.alg_lemma.specs.FirstLemmas.{first_lemmas, add_left_comm, mul_left_comm, add_neg_cancel, mul_inv_cancel, inv_inv, mul_inv_rev, neg_mul, add_pos}
use Rattle.alg_lemma.specs.RearrangingLemmas.{rearranging_lemmas, add_right_comm, add_add_add_comm, mul_right_comm, mul_mul_mul_comm, add_neg_cancel_left, add_add_neg_cancel, pow_mul_of, pow_pow_of}
use Rattle.alg_lemma.specs.NegationLemmas.{negation_lemmas, eq_neg_of_add, neg_neg, neg_zero, neg_add_neg, neg_add_neg_lit, add_neg_pos, add_neg_neg}
use Rattle.alg_lemma.specs.SignLemmas.{sign_lemmas, neg_add_pos, neg_add_negr, sub_eq_of_add, neg_mul_lit, mul_neg, mul_neg_lit, neg_mul_neg, pow_one, pow_double, pow_next}
use Rattle.alg_lemma.specs.InverseLemmas.{inverse_lemmas, inv_unique, inv_mul_cancel0, inv_inv0, mul_inv_cancel_right0, mul_inv0, neg_inv0, neg_inv_lit, one_inv0}
use Rattle.alg_lemma.specs.QuotientLemmas.{quotient_lemmas, pow_inv0, inv_eq_one_div, div_one0, div_inv0, one_div_inv0, div_ne_zero, div_mul_lit}
use Rattle.alg_lemma.specs.FractionLemmas.{fraction_lemmas, eq_of_mul, div_add_same, div_split, div_join, div_expand, eq_div_of_mul}
use Rattle.alg_lemma.specs.FractionProductLemmas.{fraction_product_lemmas, div_mul_swap, div_mul_div, mul_div_right, mul_div_left, mul_div_comm}
use Rattle.alg_lemma.specs.FractionPowerLemmas.{fraction_power_lemmas, div_pow, div_of_inv, neg_div, zpow_neg_lit0, zsmul_neg_lit}
use Rattle.alg_lemma.specs.InequationLemmas.{inequation_lemmas, neg_ne_neg, neg_ne_pos, pos_ne_neg, ne_of_mul, ne_zero_of_pos}
use Rattle.alg_lemma.specs.ComparisonLemmas.{comparison_lemmas, lt_of_mul, le_of_mul, neg_lt_neg, neg_le_neg, neg_lt_zero, neg_lt_nonneg, neg_le_nonneg, abs_neg_lit, div_pos}
use Rattle.alg_lemma.specs.NodeSumLemmas.{node_sum_lemmas, add_tail, add_tail_zero, add_head, add_head_zero, add_mul_right, add_mul_right_zero, add_pair_left}
use Rattle.alg_lemma.specs.NodePairLemmas.{node_pair_lemmas, add_pair_right, add_pair_drop, add_front, add_front_drop, node_split, node_join}
use Rattle.alg_lemma.specs.NodeProductLemmas.{node_product_lemmas, mul_swap, mul_node, mul_node_zero, mul_same, mul_same_zero, atom_node, pow_node, sub_of_neg, neg_sum, neg_node, neg_node_zero}
use Rattle.alg_lemma.specs.MergingLemmas.{merging_lemmas, leaf_mono, node_mono, node_mono_zero, merge_left, merge_right, mono_first, mono_next, mono_one_more, mono_again}
use Rattle.alg_lemma.specs.WrittenTermLemmas.{written_term_lemmas, first_one, first_neg, first_neg_one, first_const, next_coef, next_one, next_neg, next_neg_one, next_const, next_const_neg}
use Rattle.alg_lemma.specs.CombinationLemmas.{combination_lemmas, eq_of_sub, sub_self_of, eq_of_combo, add_nodes, add_nodes_zero, mul_unit, mul_unit_join, distrib_back}
use Rattle.alg_lemma.specs.MultipleLemmas.{multiple_lemmas, one_nsmul, atom_sum, nsmul_zero, nsmul_collect, nsmul_nsmul, nsmul_sum, nsmul_neg}
use Rattle.alg_lemma.specs.MultipleSumLemmas.{multiple_sum_lemmas, neg_sum_pos, neg_sum_neg, sum_drop, sum_first, sum_first_neg_one, sum_next, sum_next_neg, sum_next_neg_one}
use Rattle.alg_lemma.specs.WordLemmas.{word_lemmas, atom_word, word_cancel, word_inv, one_inv, word_inv_end, inv_of_word, div_of_word, syllable_mul, syllable_pow, syllable_inv_neg, one_mul_pow, zpow_neg_lit, word_first}
use Rattle.alg_lemma.specs.PositivityLemmas.{positivity_lemmas, pos_of_nonneg_ne, add_pos_nonneg, add_nonneg_pos, add_nonneg, pow_zero_pos, even_pow_nonneg, even_pow_pos, div_nonneg}
use Rattle.alg_lemma.specs.FactorLemmas.{factor_lemmas, ne_zero_of_pos_order, mul_pow_of, pow_mul_pow, sub_mul, div_inv_mul, inv_mul_of, ne_zero_of_mul}
use Rattle.alg_lemma.specs.CommutingLemmas.{commuting_lemmas, letter_node, commute_one, commute_double, commute_odd, commute_neg, mul_neg_one, neg_one_mul, mul_drop}
use Rattle.alg_lemma.specs.JoinedInequalityLemmas.{joined_inequality_lemmas, le_of_eq, add_le_add_lt, add_le_eq, add_eq_le, add_lt_eq, add_eq_lt, sub_le_eq, sub_lt_eq, mul_le_mul_left, mul_lt_mul_left, div_le_div_right, div_lt_div_right}
use Rattle.alg_lemma.specs.RestLemmas.{rest_lemmas, sub_add_cancel, le_of_sub, lt_of_sub, le_of_combo, lt_of_combo, lt_of_combo_lt}
use Rattle.alg_lemma.specs.ExponentLemmas.{exponent_lemmas, exp_next, exp_first, exp_term, exp_const, exp_one, exp_zero, exp_swap, pow_node_mul}
use Rattle.alg_lemma.specs.IntegerPowerLemmas.{integer_power_lemmas, one_zpow, syllable_inv, syllable_zpow, one_mul_zpow}

-- the library holds itself
pub holds : (rows : List Row) → rows ≡ lemma_table → HoldsLibrary rows
holds rows e = record { finds = λ r i. rw e (lemma_named-own r i) }

found : (rows : List Row) → HoldsLibrary rows → (r : Row) → row_named lemma_table r.name ≡ Some r → row_named rows r.name ≡ Some r
found rows h r there = h.finds r (row_named-contains lemma_table r.name r there)

pub add_left_comm-named : (rows : List Row) → HoldsLibrary rows → row_named rows (codes "add_left_comm") ≡ Some add_left_comm
unfolding lemma_table lemma_groups first_lemmas
add_left_comm-named rows h = found rows h add_left_comm refl

pub mul_left_comm-named : (rows : List Row) → HoldsLibrary rows → row_named rows (codes "mul_left_comm") ≡ Some mul_left_comm
unfolding lemma_table lemma_groups first_lemmas
mul_left_comm-named rows h = found rows h mul_left_comm refl

pub add_neg_cancel-named : (rows : List Row) → HoldsLibrary rows → row_named rows (codes "add_neg_cancel") ≡ Some add_neg_cancel
unfolding lemma_table lemma_groups first_lemmas
add_neg_cancel-named rows h = found rows h add_neg_cancel refl

pub mul_inv_cancel-named : (rows : List Row) → HoldsLibrary rows → row_named rows (codes "mul_inv_cancel") ≡ Some mul_inv_cancel
unfolding lemma_table lemma_groups first_lemmas
mul_inv_cancel-named rows h = found rows h mul_inv_cancel refl

pub inv_inv-named : (rows : List Row) → HoldsLibrary rows → row_named rows (codes "inv_inv") ≡ Some inv_inv
unfolding lemma_table lemma_groups first_lemmas
inv_inv-named rows h = found rows h inv_inv refl

pub mul_inv_rev-named : (rows : List Row) → HoldsLibrary rows → row_named rows (codes "mul_inv_rev") ≡ Some mul_inv_rev
unfolding lemma_table lemma_groups first_lemmas
mul_inv_rev-named rows h = found rows h mul_inv_rev refl

pub neg_mul-named : (rows : List Row) → HoldsLibrary rows → row_named rows (codes "neg_mul") ≡ Some neg_mul
unfolding lemma_table lemma_groups first_lemmas
neg_mul-named rows h = found rows h neg_mul refl

pub add_pos-named : (rows : List Row) → HoldsLibrary rows → row_named rows (codes "add_pos") ≡ Some add_pos
unfolding lemma_table lemma_groups first_lemmas
add_pos-named rows h = found rows h add_pos refl

pub add_right_comm-named : (rows : List Row) → HoldsLibrary rows → row_named rows (codes "add_right_comm") ≡ Some add_right_comm
unfolding lemma_table lemma_groups first_lemmas rearranging_lemmas
add_right_comm-named rows h = found rows h add_right_comm refl

pub add_add_add_comm-named : (rows : List Row) → HoldsLibrary rows → row_named rows (codes "add_add_add_comm") ≡ Some add_add_add_comm
unfolding lemma_table lemma_groups first_lemmas rearranging_lemmas
add_add_add_comm-named rows h = found rows h add_add_add_comm refl

pub mul_right_comm-named : (rows : List Row) → HoldsLibrary rows → row_named rows (codes "mul_right_comm") ≡ Some mul_right_comm
unfolding lemma_table lemma_groups first_lemmas rearranging_lemmas
mul_right_comm-named rows h = found rows h mul_right_comm refl

pub mul_mul_mul_comm-named : (rows : List Row) → HoldsLibrary rows → row_named rows (codes "mul_mul_mul_comm") ≡ Some mul_mul_mul_comm
unfolding lemma_table lemma_groups first_lemmas rearranging_lemmas
mul_mul_mul_comm-named rows h = found rows h mul_mul_mul_comm refl

pub add_neg_cancel_left-named : (rows : List Row) → HoldsLibrary rows → row_named rows (codes "add_neg_cancel_left") ≡ Some add_neg_cancel_left
unfolding lemma_table lemma_groups first_lemmas rearranging_lemmas
add_neg_cancel_left-named rows h = found rows h add_neg_cancel_left refl

pub add_add_neg_cancel-named : (rows : List Row) → HoldsLibrary rows → row_named rows (codes "add_add_neg_cancel") ≡ Some add_add_neg_cancel
unfolding lemma_table lemma_groups first_lemmas rearranging_lemmas
add_add_neg_cancel-named rows h = found rows h add_add_neg_cancel refl

pub pow_mul_of-named : (rows : List Row) → HoldsLibrary rows → row_named rows (codes "pow_mul_of") ≡ Some pow_mul_of
unfolding lemma_table lemma_groups first_lemmas rearranging_lemmas
pow_mul_of-named rows h = found rows h pow_mul_of refl

pub pow_pow_of-named : (rows : List Row) → HoldsLibrary rows → row_named rows (codes "pow_pow_of") ≡ Some pow_pow_of
unfolding lemma_table lemma_groups first_lemmas rearranging_lemmas
pow_pow_of-named rows h = found rows h pow_pow_of refl

pub eq_neg_of_add-named : (rows : List Row) → HoldsLibrary rows → row_named rows (codes "eq_neg_of_add") ≡ Some eq_neg_of_add
unfolding lemma_table lemma_groups first_lemmas rearranging_lemmas negation_lemmas
eq_neg_of_add-named rows h = found rows h eq_neg_of_add refl

pub neg_neg-named : (rows : List Row) → HoldsLibrary rows → row_named rows (codes "neg_neg") ≡ Some neg_neg
unfolding lemma_table lemma_groups first_lemmas rearranging_lemmas negation_lemmas
neg_neg-named rows h = found rows h neg_neg refl

pub neg_zero-named : (rows : List Row) → HoldsLibrary rows → row_named rows (codes "neg_zero") ≡ Some neg_zero
unfolding lemma_table lemma_groups first_lemmas rearranging_lemmas negation_lemmas
neg_zero-named rows h = found rows h neg_zero refl

pub neg_add_neg-named : (rows : List Row) → HoldsLibrary rows → row_named rows (codes "neg_add_neg") ≡ Some neg_add_neg
unfolding lemma_table lemma_groups first_lemmas rearranging_lemmas negation_lemmas
neg_add_neg-named rows h = found rows h neg_add_neg refl

pub neg_add_neg_lit-named : (rows : List Row) → HoldsLibrary rows → row_named rows (codes "neg_add_neg_lit") ≡ Some neg_add_neg_lit
unfolding lemma_table lemma_groups first_lemmas rearranging_lemmas negation_lemmas
neg_add_neg_lit-named rows h = found rows h neg_add_neg_lit refl

pub add_neg_pos-named : (rows : List Row) → HoldsLibrary rows → row_named rows (codes "add_neg_pos") ≡ Some add_neg_pos
unfolding lemma_table lemma_groups first_lemmas rearranging_lemmas negation_lemmas
add_neg_pos-named rows h = found rows h add_neg_pos refl

pub add_neg_neg-named : (rows : List Row) → HoldsLibrary rows → row_named rows (codes "add_neg_neg") ≡ Some add_neg_neg
unfolding lemma_table lemma_groups first_lemmas rearranging_lemmas negation_lemmas
add_neg_neg-named rows h = found rows h add_neg_neg refl

pub neg_add_pos-named : (rows : List Row) → HoldsLibrary rows → row_named rows (codes "neg_add_pos") ≡ Some neg_add_pos
unfolding lemma_table lemma_groups first_lemmas rearranging_lemmas negation_lemmas sign_lemmas
neg_add_pos-named rows h = found rows h neg_add_pos refl

pub neg_add_negr-named : (rows : List Row) → HoldsLibrary rows → row_named rows (codes "neg_add_negr") ≡ Some neg_add_negr
unfolding lemma_table lemma_groups first_lemmas rearranging_lemmas negation_lemmas sign_lemmas
neg_add_negr-named rows h = found rows h neg_add_negr refl

pub sub_eq_of_add-named : (rows : List Row) → HoldsLibrary rows → row_named rows (codes "sub_eq_of_add") ≡ Some sub_eq_of_add
unfolding lemma_table lemma_groups first_lemmas rearranging_lemmas negation_lemmas sign_lemmas
sub_eq_of_add-named rows h = found rows h sub_eq_of_add refl

pub neg_mul_lit-named : (rows : List Row) → HoldsLibrary rows → row_named rows (codes "neg_mul_lit") ≡ Some neg_mul_lit
unfolding lemma_table lemma_groups first_lemmas rearranging_lemmas negation_lemmas sign_lemmas
neg_mul_lit-named rows h = found rows h neg_mul_lit refl

pub mul_neg-named : (rows : List Row) → HoldsLibrary rows → row_named rows (codes "mul_neg") ≡ Some mul_neg
unfolding lemma_table lemma_groups first_lemmas rearranging_lemmas negation_lemmas sign_lemmas
mul_neg-named rows h = found rows h mul_neg refl

pub mul_neg_lit-named : (rows : List Row) → HoldsLibrary rows → row_named rows (codes "mul_neg_lit") ≡ Some mul_neg_lit
unfolding lemma_table lemma_groups first_lemmas rearranging_lemmas negation_lemmas sign_lemmas
mul_neg_lit-named rows h = found rows h mul_neg_lit refl

pub neg_mul_neg-named : (rows : List Row) → HoldsLibrary rows → row_named rows (codes "neg_mul_neg") ≡ Some neg_mul_neg
unfolding lemma_table lemma_groups first_lemmas rearranging_lemmas negation_lemmas sign_lemmas
neg_mul_neg-named rows h = found rows h neg_mul_neg refl

pub pow_one-named : (rows : List Row) → HoldsLibrary rows → row_named rows (codes "pow_one") ≡ Some pow_one
unfolding lemma_table lemma_groups first_lemmas rearranging_lemmas negation_lemmas sign_lemmas
pow_one-named rows h = found rows h pow_one refl

pub pow_double-named : (rows : List Row) → HoldsLibrary rows → row_named rows (codes "pow_double") ≡ Some pow_double
unfolding lemma_table lemma_groups first_lemmas rearranging_lemmas negation_lemmas sign_lemmas
pow_double-named rows h = found rows h pow_double refl

pub pow_next-named : (rows : List Row) → HoldsLibrary rows → row_named rows (codes "pow_next") ≡ Some pow_next
unfolding lemma_table lemma_groups first_lemmas rearranging_lemmas negation_lemmas sign_lemmas
pow_next-named rows h = found rows h pow_next refl

pub inv_unique-named : (rows : List Row) → HoldsLibrary rows → row_named rows (codes "inv_unique") ≡ Some inv_unique
unfolding lemma_table lemma_groups first_lemmas rearranging_lemmas negation_lemmas sign_lemmas inverse_lemmas
inv_unique-named rows h = found rows h inv_unique refl

pub inv_mul_cancel0-named : (rows : List Row) → HoldsLibrary rows → row_named rows (codes "inv_mul_cancel0") ≡ Some inv_mul_cancel0
unfolding lemma_table lemma_groups first_lemmas rearranging_lemmas negation_lemmas sign_lemmas inverse_lemmas
inv_mul_cancel0-named rows h = found rows h inv_mul_cancel0 refl

pub inv_inv0-named : (rows : List Row) → HoldsLibrary rows → row_named rows (codes "inv_inv0") ≡ Some inv_inv0
unfolding lemma_table lemma_groups first_lemmas rearranging_lemmas negation_lemmas sign_lemmas inverse_lemmas
inv_inv0-named rows h = found rows h inv_inv0 refl

pub mul_inv_cancel_right0-named : (rows : List Row) → HoldsLibrary rows → row_named rows (codes "mul_inv_cancel_right0") ≡ Some mul_inv_cancel_right0
unfolding lemma_table lemma_groups first_lemmas rearranging_lemmas negation_lemmas sign_lemmas inverse_lemmas
mul_inv_cancel_right0-named rows h = found rows h mul_inv_cancel_right0 refl

pub mul_inv0-named : (rows : List Row) → HoldsLibrary rows → row_named rows (codes "mul_inv0") ≡ Some mul_inv0
unfolding lemma_table lemma_groups first_lemmas rearranging_lemmas negation_lemmas sign_lemmas inverse_lemmas
mul_inv0-named rows h = found rows h mul_inv0 refl

pub neg_inv0-named : (rows : List Row) → HoldsLibrary rows → row_named rows (codes "neg_inv0") ≡ Some neg_inv0
unfolding lemma_table lemma_groups first_lemmas rearranging_lemmas negation_lemmas sign_lemmas inverse_lemmas
neg_inv0-named rows h = found rows h neg_inv0 refl

pub neg_inv_lit-named : (rows : List Row) → HoldsLibrary rows → row_named rows (codes "neg_inv_lit") ≡ Some neg_inv_lit
unfolding lemma_table lemma_groups first_lemmas rearranging_lemmas negation_lemmas sign_lemmas inverse_lemmas
neg_inv_lit-named rows h = found rows h neg_inv_lit refl

pub one_inv0-named : (rows : List Row) → HoldsLibrary rows → row_named rows (codes "one_inv0") ≡ Some one_inv0
unfolding lemma_table lemma_groups first_lemmas rearranging_lemmas negation_lemmas sign_lemmas inverse_lemmas
one_inv0-named rows h = found rows h one_inv0 refl

pub pow_inv0-named : (rows : List Row) → HoldsLibrary rows → row_named rows (codes "pow_inv0") ≡ Some pow_inv0
unfolding lemma_table lemma_groups first_lemmas rearranging_lemmas negation_lemmas sign_lemmas inverse_lemmas quotient_lemmas
pow_inv0-named rows h = found rows h pow_inv0 refl

pub inv_eq_one_div-named : (rows : List Row) → HoldsLibrary rows → row_named rows (codes "inv_eq_one_div") ≡ Some inv_eq_one_div
unfolding lemma_table lemma_groups first_lemmas rearranging_lemmas negation_lemmas sign_lemmas inverse_lemmas quotient_lemmas
inv_eq_one_div-named rows h = found rows h inv_eq_one_div refl

pub div_one0-named : (rows : List Row) → HoldsLibrary rows → row_named rows (codes "div_one0") ≡ Some div_one0
unfolding lemma_table lemma_groups first_lemmas rearranging_lemmas negation_lemmas sign_lemmas inverse_lemmas quotient_lemmas
div_one0-named rows h = found rows h div_one0 refl

pub div_inv0-named : (rows : List Row) → HoldsLibrary rows → row_named rows (codes "div_inv0") ≡ Some div_inv0
unfolding lemma_table lemma_groups first_lemmas rearranging_lemmas negation_lemmas sign_lemmas inverse_lemmas quotient_lemmas
div_inv0-named rows h = found rows h div_inv0 refl

pub one_div_inv0-named : (rows : List Row) → HoldsLibrary rows → row_named rows (codes "one_div_inv0") ≡ Some one_div_inv0
unfolding lemma_table lemma_groups first_lemmas rearranging_lemmas negation_lemmas sign_lemmas inverse_lemmas quotient_lemmas
one_div_inv0-named rows h = found rows h one_div_inv0 refl

pub div_ne_zero-named : (rows : List Row) → HoldsLibrary rows → row_named rows (codes "div_ne_zero") ≡ Some div_ne_zero
unfolding lemma_table lemma_groups first_lemmas rearranging_lemmas negation_lemmas sign_lemmas inverse_lemmas quotient_lemmas
div_ne_zero-named rows h = found rows h div_ne_zero refl

pub div_mul_lit-named : (rows : List Row) → HoldsLibrary rows → row_named rows (codes "div_mul_lit") ≡ Some div_mul_lit
unfolding lemma_table lemma_groups first_lemmas rearranging_lemmas negation_lemmas sign_lemmas inverse_lemmas quotient_lemmas
div_mul_lit-named rows h = found rows h div_mul_lit refl

pub eq_of_mul-named : (rows : List Row) → HoldsLibrary rows → row_named rows (codes "eq_of_mul") ≡ Some eq_of_mul
unfolding lemma_table lemma_groups first_lemmas rearranging_lemmas negation_lemmas sign_lemmas inverse_lemmas quotient_lemmas fraction_lemmas
eq_of_mul-named rows h = found rows h eq_of_mul refl

pub div_add_same-named : (rows : List Row) → HoldsLibrary rows → row_named rows (codes "div_add_same") ≡ Some div_add_same
unfolding lemma_table lemma_groups first_lemmas rearranging_lemmas negation_lemmas sign_lemmas inverse_lemmas quotient_lemmas fraction_lemmas
div_add_same-named rows h = found rows h div_add_same refl

pub div_split-named : (rows : List Row) → HoldsLibrary rows → row_named rows (codes "div_split") ≡ Some div_split
unfolding lemma_table lemma_groups first_lemmas rearranging_lemmas negation_lemmas sign_lemmas inverse_lemmas quotient_lemmas fraction_lemmas
div_split-named rows h = found rows h div_split refl

pub div_join-named : (rows : List Row) → HoldsLibrary rows → row_named rows (codes "div_join") ≡ Some div_join
unfolding lemma_table lemma_groups first_lemmas rearranging_lemmas negation_lemmas sign_lemmas inverse_lemmas quotient_lemmas fraction_lemmas
div_join-named rows h = found rows h div_join refl

pub div_expand-named : (rows : List Row) → HoldsLibrary rows → row_named rows (codes "div_expand") ≡ Some div_expand
unfolding lemma_table lemma_groups first_lemmas rearranging_lemmas negation_lemmas sign_lemmas inverse_lemmas quotient_lemmas fraction_lemmas
div_expand-named rows h = found rows h div_expand refl

pub eq_div_of_mul-named : (rows : List Row) → HoldsLibrary rows → row_named rows (codes "eq_div_of_mul") ≡ Some eq_div_of_mul
unfolding lemma_table lemma_groups first_lemmas rearranging_lemmas negation_lemmas sign_lemmas inverse_lemmas quotient_lemmas fraction_lemmas
eq_div_of_mul-named rows h = found rows h eq_div_of_mul refl

pub div_mul_swap-named : (rows : List Row) → HoldsLibrary rows → row_named rows (codes "div_mul_swap") ≡ Some div_mul_swap
unfolding lemma_table lemma_groups first_lemmas rearranging_lemmas negation_lemmas sign_lemmas inverse_lemmas quotient_lemmas fraction_lemmas fraction_product_lemmas
div_mul_swap-named rows h = found rows h div_mul_swap refl

pub div_mul_div-named : (rows : List Row) → HoldsLibrary rows → row_named rows (codes "div_mul_div") ≡ Some div_mul_div
unfolding lemma_table lemma_groups first_lemmas rearranging_lemmas negation_lemmas sign_lemmas inverse_lemmas quotient_lemmas fraction_lemmas fraction_product_lemmas
div_mul_div-named rows h = found rows h div_mul_div refl

pub mul_div_right-named : (rows : List Row) → HoldsLibrary rows → row_named rows (codes "mul_div_right") ≡ Some mul_div_right
unfolding lemma_table lemma_groups first_lemmas rearranging_lemmas negation_lemmas sign_lemmas inverse_lemmas quotient_lemmas fraction_lemmas fraction_product_lemmas
mul_div_right-named rows h = found rows h mul_div_right refl

pub mul_div_left-named : (rows : List Row) → HoldsLibrary rows → row_named rows (codes "mul_div_left") ≡ Some mul_div_left
unfolding lemma_table lemma_groups first_lemmas rearranging_lemmas negation_lemmas sign_lemmas inverse_lemmas quotient_lemmas fraction_lemmas fraction_product_lemmas
mul_div_left-named rows h = found rows h mul_div_left refl

pub mul_div_comm-named : (rows : List Row) → HoldsLibrary rows → row_named rows (codes "mul_div_comm") ≡ Some mul_div_comm
unfolding lemma_table lemma_groups first_lemmas rearranging_lemmas negation_lemmas sign_lemmas inverse_lemmas quotient_lemmas fraction_lemmas fraction_product_lemmas
mul_div_comm-named rows h = found rows h mul_div_comm refl

pub div_pow-named : (rows : List Row) → HoldsLibrary rows → row_named rows (codes "div_pow") ≡ Some div_pow
unfolding lemma_table lemma_groups first_lemmas rearranging_lemmas negation_lemmas sign_lemmas inverse_lemmas quotient_lemmas fraction_lemmas fraction_product_lemmas fraction_power_lemmas
div_pow-named rows h = found rows h div_pow refl

pub div_of_inv-named : (rows : List Row) → HoldsLibrary rows → row_named rows (codes "div_of_inv") ≡ Some div_of_inv
unfolding lemma_table lemma_groups first_lemmas rearranging_lemmas negation_lemmas sign_lemmas inverse_lemmas quotient_lemmas fraction_lemmas fraction_product_lemmas fraction_power_lemmas
div_of_inv-named rows h = found rows h div_of_inv refl

pub neg_div-named : (rows : List Row) → HoldsLibrary rows → row_named rows (codes "neg_div") ≡ Some neg_div
unfolding lemma_table lemma_groups first_lemmas rearranging_lemmas negation_lemmas sign_lemmas inverse_lemmas quotient_lemmas fraction_lemmas fraction_product_lemmas fraction_power_lemmas
neg_div-named rows h = found rows h neg_div refl

pub zpow_neg_lit0-named : (rows : List Row) → HoldsLibrary rows → row_named rows (codes "zpow_neg_lit0") ≡ Some zpow_neg_lit0
unfolding lemma_table lemma_groups first_lemmas rearranging_lemmas negation_lemmas sign_lemmas inverse_lemmas quotient_lemmas fraction_lemmas fraction_product_lemmas fraction_power_lemmas
zpow_neg_lit0-named rows h = found rows h zpow_neg_lit0 refl

pub zsmul_neg_lit-named : (rows : List Row) → HoldsLibrary rows → row_named rows (codes "zsmul_neg_lit") ≡ Some zsmul_neg_lit
unfolding lemma_table lemma_groups first_lemmas rearranging_lemmas negation_lemmas sign_lemmas inverse_lemmas quotient_lemmas fraction_lemmas fraction_product_lemmas fraction_power_lemmas
zsmul_neg_lit-named rows h = found rows h zsmul_neg_lit refl

pub neg_ne_neg-named : (rows : List Row) → HoldsLibrary rows → row_named rows (codes "neg_ne_neg") ≡ Some neg_ne_neg
unfolding lemma_table lemma_groups first_lemmas rearranging_lemmas negation_lemmas sign_lemmas inverse_lemmas quotient_lemmas fraction_lemmas fraction_product_lemmas fraction_power_lemmas inequation_lemmas
neg_ne_neg-named rows h = found rows h neg_ne_neg refl

pub neg_ne_pos-named : (rows : List Row) → HoldsLibrary rows → row_named rows (codes "neg_ne_pos") ≡ Some neg_ne_pos
unfolding lemma_table lemma_groups first_lemmas rearranging_lemmas negation_lemmas sign_lemmas inverse_lemmas quotient_lemmas fraction_lemmas fraction_product_lemmas fraction_power_lemmas inequation_lemmas
neg_ne_pos-named rows h = found rows h neg_ne_pos refl

pub pos_ne_neg-named : (rows : List Row) → HoldsLibrary rows → row_named rows (codes "pos_ne_neg") ≡ Some pos_ne_neg
unfolding lemma_table lemma_groups first_lemmas rearranging_lemmas negation_lemmas sign_lemmas inverse_lemmas quotient_lemmas fraction_lemmas fraction_product_lemmas fraction_power_lemmas inequation_lemmas
pos_ne_neg-named rows h = found rows h pos_ne_neg refl

pub ne_of_mul-named : (rows : List Row) → HoldsLibrary rows → row_named rows (codes "ne_of_mul") ≡ Some ne_of_mul
unfolding lemma_table lemma_groups first_lemmas rearranging_lemmas negation_lemmas sign_lemmas inverse_lemmas quotient_lemmas fraction_lemmas fraction_product_lemmas fraction_power_lemmas inequation_lemmas
ne_of_mul-named rows h = found rows h ne_of_mul refl

pub ne_zero_of_pos-named : (rows : List Row) → HoldsLibrary rows → row_named rows (codes "ne_zero_of_pos") ≡ Some ne_zero_of_pos
unfolding lemma_table lemma_groups first_lemmas rearranging_lemmas negation_lemmas sign_lemmas inverse_lemmas quotient_lemmas fraction_lemmas fraction_product_lemmas fraction_power_lemmas inequation_lemmas
ne_zero_of_pos-named rows h = found rows h ne_zero_of_pos refl

pub lt_of_mul-named : (rows : List Row) → HoldsLibrary rows → row_named rows (codes "lt_of_mul") ≡ Some lt_of_mul
unfolding lemma_table lemma_groups first_lemmas rearranging_lemmas negation_lemmas sign_lemmas inverse_lemmas quotient_lemmas fraction_lemmas fraction_product_lemmas fraction_power_lemmas inequation_lemmas comparison_lemmas
lt_of_mul-named rows h = found rows h lt_of_mul refl

pub le_of_mul-named : (rows : List Row) → HoldsLibrary rows → row_named rows (codes "le_of_mul") ≡ Some le_of_mul
unfolding lemma_table lemma_groups first_lemmas rearranging_lemmas negation_lemmas sign_lemmas inverse_lemmas quotient_lemmas fraction_lemmas fraction_product_lemmas fraction_power_lemmas inequation_lemmas comparison_lemmas
le_of_mul-named rows h = found rows h le_of_mul refl

pub neg_lt_neg-named : (rows : List Row) → HoldsLibrary rows → row_named rows (codes "neg_lt_neg") ≡ Some neg_lt_neg
unfolding lemma_table lemma_groups first_lemmas rearranging_lemmas negation_lemmas sign_lemmas inverse_lemmas quotient_lemmas fraction_lemmas fraction_product_lemmas fraction_power_lemmas inequation_lemmas comparison_lemmas
neg_lt_neg-named rows h = found rows h neg_lt_neg refl

pub neg_le_neg-named : (rows : List Row) → HoldsLibrary rows → row_named rows (codes "neg_le_neg") ≡ Some neg_le_neg
unfolding lemma_table lemma_groups first_lemmas rearranging_lemmas negation_lemmas sign_lemmas inverse_lemmas quotient_lemmas fraction_lemmas fraction_product_lemmas fraction_power_lemmas inequation_lemmas comparison_lemmas
neg_le_neg-named rows h = found rows h neg_le_neg refl

pub neg_lt_zero-named : (rows : List Row) → HoldsLibrary rows → row_named rows (codes "neg_lt_zero") ≡ Some neg_lt_zero
unfolding lemma_table lemma_groups first_lemmas rearranging_lemmas negation_lemmas sign_lemmas inverse_lemmas quotient_lemmas fraction_lemmas fraction_product_lemmas fraction_power_lemmas inequation_lemmas comparison_lemmas
neg_lt_zero-named rows h = found rows h neg_lt_zero refl

pub neg_lt_nonneg-named : (rows : List Row) → HoldsLibrary rows → row_named rows (codes "neg_lt_nonneg") ≡ Some neg_lt_nonneg
unfolding lemma_table lemma_groups first_lemmas rearranging_lemmas negation_lemmas sign_lemmas inverse_lemmas quotient_lemmas fraction_lemmas fraction_product_lemmas fraction_power_lemmas inequation_lemmas comparison_lemmas
neg_lt_nonneg-named rows h = found rows h neg_lt_nonneg refl

pub neg_le_nonneg-named : (rows : List Row) → HoldsLibrary rows → row_named rows (codes "neg_le_nonneg") ≡ Some neg_le_nonneg
unfolding lemma_table lemma_groups first_lemmas rearranging_lemmas negation_lemmas sign_lemmas inverse_lemmas quotient_lemmas fraction_lemmas fraction_product_lemmas fraction_power_lemmas inequation_lemmas comparison_lemmas
neg_le_nonneg-named rows h = found rows h neg_le_nonneg refl

pub abs_neg_lit-named : (rows : List Row) → HoldsLibrary rows → row_named rows (codes "abs_neg_lit") ≡ Some abs_neg_lit
unfolding lemma_table lemma_groups first_lemmas rearranging_lemmas negation_lemmas sign_lemmas inverse_lemmas quotient_lemmas fraction_lemmas fraction_product_lemmas fraction_power_lemmas inequation_lemmas comparison_lemmas
abs_neg_lit-named rows h = found rows h abs_neg_lit refl

pub div_pos-named : (rows : List Row) → HoldsLibrary rows → row_named rows (codes "div_pos") ≡ Some div_pos
unfolding lemma_table lemma_groups first_lemmas rearranging_lemmas negation_lemmas sign_lemmas inverse_lemmas quotient_lemmas fraction_lemmas fraction_product_lemmas fraction_power_lemmas inequation_lemmas comparison_lemmas
div_pos-named rows h = found rows h div_pos refl

pub add_tail-named : (rows : List Row) → HoldsLibrary rows → row_named rows (codes "add_tail") ≡ Some add_tail
unfolding lemma_table lemma_groups first_lemmas rearranging_lemmas negation_lemmas sign_lemmas inverse_lemmas quotient_lemmas fraction_lemmas fraction_product_lemmas fraction_power_lemmas inequation_lemmas comparison_lemmas node_sum_lemmas
add_tail-named rows h = found rows h add_tail refl

pub add_tail_zero-named : (rows : List Row) → HoldsLibrary rows → row_named rows (codes "add_tail_zero") ≡ Some add_tail_zero
unfolding lemma_table lemma_groups first_lemmas rearranging_lemmas negation_lemmas sign_lemmas inverse_lemmas quotient_lemmas fraction_lemmas fraction_product_lemmas fraction_power_lemmas inequation_lemmas comparison_lemmas node_sum_lemmas
add_tail_zero-named rows h = found rows h add_tail_zero refl

pub add_head-named : (rows : List Row) → HoldsLibrary rows → row_named rows (codes "add_head") ≡ Some add_head
unfolding lemma_table lemma_groups first_lemmas rearranging_lemmas negation_lemmas sign_lemmas inverse_lemmas quotient_lemmas fraction_lemmas fraction_product_lemmas fraction_power_lemmas inequation_lemmas comparison_lemmas node_sum_lemmas
add_head-named rows h = found rows h add_head refl

pub add_head_zero-named : (rows : List Row) → HoldsLibrary rows → row_named rows (codes "add_head_zero") ≡ Some add_head_zero
unfolding lemma_table lemma_groups first_lemmas rearranging_lemmas negation_lemmas sign_lemmas inverse_lemmas quotient_lemmas fraction_lemmas fraction_product_lemmas fraction_power_lemmas inequation_lemmas comparison_lemmas node_sum_lemmas
add_head_zero-named rows h = found rows h add_head_zero refl

pub add_mul_right-named : (rows : List Row) → HoldsLibrary rows → row_named rows (codes "add_mul_right") ≡ Some add_mul_right
unfolding lemma_table lemma_groups first_lemmas rearranging_lemmas negation_lemmas sign_lemmas inverse_lemmas quotient_lemmas fraction_lemmas fraction_product_lemmas fraction_power_lemmas inequation_lemmas comparison_lemmas node_sum_lemmas
add_mul_right-named rows h = found rows h add_mul_right refl

pub add_mul_right_zero-named : (rows : List Row) → HoldsLibrary rows → row_named rows (codes "add_mul_right_zero") ≡ Some add_mul_right_zero
unfolding lemma_table lemma_groups first_lemmas rearranging_lemmas negation_lemmas sign_lemmas inverse_lemmas quotient_lemmas fraction_lemmas fraction_product_lemmas fraction_power_lemmas inequation_lemmas comparison_lemmas node_sum_lemmas
add_mul_right_zero-named rows h = found rows h add_mul_right_zero refl

pub add_pair_left-named : (rows : List Row) → HoldsLibrary rows → row_named rows (codes "add_pair_left") ≡ Some add_pair_left
unfolding lemma_table lemma_groups first_lemmas rearranging_lemmas negation_lemmas sign_lemmas inverse_lemmas quotient_lemmas fraction_lemmas fraction_product_lemmas fraction_power_lemmas inequation_lemmas comparison_lemmas node_sum_lemmas
add_pair_left-named rows h = found rows h add_pair_left refl

pub add_pair_right-named : (rows : List Row) → HoldsLibrary rows → row_named rows (codes "add_pair_right") ≡ Some add_pair_right
unfolding lemma_table lemma_groups first_lemmas rearranging_lemmas negation_lemmas sign_lemmas inverse_lemmas quotient_lemmas fraction_lemmas fraction_product_lemmas fraction_power_lemmas inequation_lemmas comparison_lemmas node_sum_lemmas node_pair_lemmas
add_pair_right-named rows h = found rows h add_pair_right refl

pub add_pair_drop-named : (rows : List Row) → HoldsLibrary rows → row_named rows (codes "add_pair_drop") ≡ Some add_pair_drop
unfolding lemma_table lemma_groups first_lemmas rearranging_lemmas negation_lemmas sign_lemmas inverse_lemmas quotient_lemmas fraction_lemmas fraction_product_lemmas fraction_power_lemmas inequation_lemmas comparison_lemmas node_sum_lemmas node_pair_lemmas
add_pair_drop-named rows h = found rows h add_pair_drop refl

pub add_front-named : (rows : List Row) → HoldsLibrary rows → row_named rows (codes "add_front") ≡ Some add_front
unfolding lemma_table lemma_groups first_lemmas rearranging_lemmas negation_lemmas sign_lemmas inverse_lemmas quotient_lemmas fraction_lemmas fraction_product_lemmas fraction_power_lemmas inequation_lemmas comparison_lemmas node_sum_lemmas node_pair_lemmas
add_front-named rows h = found rows h add_front refl

pub add_front_drop-named : (rows : List Row) → HoldsLibrary rows → row_named rows (codes "add_front_drop") ≡ Some add_front_drop
unfolding lemma_table lemma_groups first_lemmas rearranging_lemmas negation_lemmas sign_lemmas inverse_lemmas quotient_lemmas fraction_lemmas fraction_product_lemmas fraction_power_lemmas inequation_lemmas comparison_lemmas node_sum_lemmas node_pair_lemmas
add_front_drop-named rows h = found rows h add_front_drop refl

pub node_split-named : (rows : List Row) → HoldsLibrary rows → row_named rows (codes "node_split") ≡ Some node_split
unfolding lemma_table lemma_groups first_lemmas rearranging_lemmas negation_lemmas sign_lemmas inverse_lemmas quotient_lemmas fraction_lemmas fraction_product_lemmas fraction_power_lemmas inequation_lemmas comparison_lemmas node_sum_lemmas node_pair_lemmas
node_split-named rows h = found rows h node_split refl

pub node_join-named : (rows : List Row) → HoldsLibrary rows → row_named rows (codes "node_join") ≡ Some node_join
unfolding lemma_table lemma_groups first_lemmas rearranging_lemmas negation_lemmas sign_lemmas inverse_lemmas quotient_lemmas fraction_lemmas fraction_product_lemmas fraction_power_lemmas inequation_lemmas comparison_lemmas node_sum_lemmas node_pair_lemmas
node_join-named rows h = found rows h node_join refl

pub mul_swap-named : (rows : List Row) → HoldsLibrary rows → row_named rows (codes "mul_swap") ≡ Some mul_swap
unfolding lemma_table lemma_groups first_lemmas rearranging_lemmas negation_lemmas sign_lemmas inverse_lemmas quotient_lemmas fraction_lemmas fraction_product_lemmas fraction_power_lemmas inequation_lemmas comparison_lemmas node_sum_lemmas node_pair_lemmas node_product_lemmas
mul_swap-named rows h = found rows h mul_swap refl

pub mul_node-named : (rows : List Row) → HoldsLibrary rows → row_named rows (codes "mul_node") ≡ Some mul_node
unfolding lemma_table lemma_groups first_lemmas rearranging_lemmas negation_lemmas sign_lemmas inverse_lemmas quotient_lemmas fraction_lemmas fraction_product_lemmas fraction_power_lemmas inequation_lemmas comparison_lemmas node_sum_lemmas node_pair_lemmas node_product_lemmas
mul_node-named rows h = found rows h mul_node refl

pub mul_node_zero-named : (rows : List Row) → HoldsLibrary rows → row_named rows (codes "mul_node_zero") ≡ Some mul_node_zero
unfolding lemma_table lemma_groups first_lemmas rearranging_lemmas negation_lemmas sign_lemmas inverse_lemmas quotient_lemmas fraction_lemmas fraction_product_lemmas fraction_power_lemmas inequation_lemmas comparison_lemmas node_sum_lemmas node_pair_lemmas node_product_lemmas
mul_node_zero-named rows h = found rows h mul_node_zero refl

pub mul_same-named : (rows : List Row) → HoldsLibrary rows → row_named rows (codes "mul_same") ≡ Some mul_same
unfolding lemma_table lemma_groups first_lemmas rearranging_lemmas negation_lemmas sign_lemmas inverse_lemmas quotient_lemmas fraction_lemmas fraction_product_lemmas fraction_power_lemmas inequation_lemmas comparison_lemmas node_sum_lemmas node_pair_lemmas node_product_lemmas
mul_same-named rows h = found rows h mul_same refl

pub mul_same_zero-named : (rows : List Row) → HoldsLibrary rows → row_named rows (codes "mul_same_zero") ≡ Some mul_same_zero
unfolding lemma_table lemma_groups first_lemmas rearranging_lemmas negation_lemmas sign_lemmas inverse_lemmas quotient_lemmas fraction_lemmas fraction_product_lemmas fraction_power_lemmas inequation_lemmas comparison_lemmas node_sum_lemmas node_pair_lemmas node_product_lemmas
mul_same_zero-named rows h = found rows h mul_same_zero refl

pub atom_node-named : (rows : List Row) → HoldsLibrary rows → row_named rows (codes "atom_node") ≡ Some atom_node
unfolding lemma_table lemma_groups first_lemmas rearranging_lemmas negation_lemmas sign_lemmas inverse_lemmas quotient_lemmas fraction_lemmas fraction_product_lemmas fraction_power_lemmas inequation_lemmas comparison_lemmas node_sum_lemmas node_pair_lemmas node_product_lemmas
atom_node-named rows h = found rows h atom_node refl

pub pow_node-named : (rows : List Row) → HoldsLibrary rows → row_named rows (codes "pow_node") ≡ Some pow_node
unfolding lemma_table lemma_groups first_lemmas rearranging_lemmas negation_lemmas sign_lemmas inverse_lemmas quotient_lemmas fraction_lemmas fraction_product_lemmas fraction_power_lemmas inequation_lemmas comparison_lemmas node_sum_lemmas node_pair_lemmas node_product_lemmas
pow_node-named rows h = found rows h pow_node refl

pub sub_of_neg-named : (rows : List Row) → HoldsLibrary rows → row_named rows (codes "sub_of_neg") ≡ Some sub_of_neg
unfolding lemma_table lemma_groups first_lemmas rearranging_lemmas negation_lemmas sign_lemmas inverse_lemmas quotient_lemmas fraction_lemmas fraction_product_lemmas fraction_power_lemmas inequation_lemmas comparison_lemmas node_sum_lemmas node_pair_lemmas node_product_lemmas
sub_of_neg-named rows h = found rows h sub_of_neg refl

pub neg_sum-named : (rows : List Row) → HoldsLibrary rows → row_named rows (codes "neg_sum") ≡ Some neg_sum
unfolding lemma_table lemma_groups first_lemmas rearranging_lemmas negation_lemmas sign_lemmas inverse_lemmas quotient_lemmas fraction_lemmas fraction_product_lemmas fraction_power_lemmas inequation_lemmas comparison_lemmas node_sum_lemmas node_pair_lemmas node_product_lemmas
neg_sum-named rows h = found rows h neg_sum refl

pub neg_node-named : (rows : List Row) → HoldsLibrary rows → row_named rows (codes "neg_node") ≡ Some neg_node
unfolding lemma_table lemma_groups first_lemmas rearranging_lemmas negation_lemmas sign_lemmas inverse_lemmas quotient_lemmas fraction_lemmas fraction_product_lemmas fraction_power_lemmas inequation_lemmas comparison_lemmas node_sum_lemmas node_pair_lemmas node_product_lemmas
neg_node-named rows h = found rows h neg_node refl

pub neg_node_zero-named : (rows : List Row) → HoldsLibrary rows → row_named rows (codes "neg_node_zero") ≡ Some neg_node_zero
unfolding lemma_table lemma_groups first_lemmas rearranging_lemmas negation_lemmas sign_lemmas inverse_lemmas quotient_lemmas fraction_lemmas fraction_product_lemmas fraction_power_lemmas inequation_lemmas comparison_lemmas node_sum_lemmas node_pair_lemmas node_product_lemmas
neg_node_zero-named rows h = found rows h neg_node_zero refl

pub leaf_mono-named : (rows : List Row) → HoldsLibrary rows → row_named rows (codes "leaf_mono") ≡ Some leaf_mono
unfolding lemma_table lemma_groups first_lemmas rearranging_lemmas negation_lemmas sign_lemmas inverse_lemmas quotient_lemmas fraction_lemmas fraction_product_lemmas fraction_power_lemmas inequation_lemmas comparison_lemmas node_sum_lemmas node_pair_lemmas node_product_lemmas merging_lemmas
leaf_mono-named rows h = found rows h leaf_mono refl

pub node_mono-named : (rows : List Row) → HoldsLibrary rows → row_named rows (codes "node_mono") ≡ Some node_mono
unfolding lemma_table lemma_groups first_lemmas rearranging_lemmas negation_lemmas sign_lemmas inverse_lemmas quotient_lemmas fraction_lemmas fraction_product_lemmas fraction_power_lemmas inequation_lemmas comparison_lemmas node_sum_lemmas node_pair_lemmas node_product_lemmas merging_lemmas
node_mono-named rows h = found rows h node_mono refl

pub node_mono_zero-named : (rows : List Row) → HoldsLibrary rows → row_named rows (codes "node_mono_zero") ≡ Some node_mono_zero
unfolding lemma_table lemma_groups first_lemmas rearranging_lemmas negation_lemmas sign_lemmas inverse_lemmas quotient_lemmas fraction_lemmas fraction_product_lemmas fraction_power_lemmas inequation_lemmas comparison_lemmas node_sum_lemmas node_pair_lemmas node_product_lemmas merging_lemmas
node_mono_zero-named rows h = found rows h node_mono_zero refl

pub merge_left-named : (rows : List Row) → HoldsLibrary rows → row_named rows (codes "merge_left") ≡ Some merge_left
unfolding lemma_table lemma_groups first_lemmas rearranging_lemmas negation_lemmas sign_lemmas inverse_lemmas quotient_lemmas fraction_lemmas fraction_product_lemmas fraction_power_lemmas inequation_lemmas comparison_lemmas node_sum_lemmas node_pair_lemmas node_product_lemmas merging_lemmas
merge_left-named rows h = found rows h merge_left refl

pub merge_right-named : (rows : List Row) → HoldsLibrary rows → row_named rows (codes "merge_right") ≡ Some merge_right
unfolding lemma_table lemma_groups first_lemmas rearranging_lemmas negation_lemmas sign_lemmas inverse_lemmas quotient_lemmas fraction_lemmas fraction_product_lemmas fraction_power_lemmas inequation_lemmas comparison_lemmas node_sum_lemmas node_pair_lemmas node_product_lemmas merging_lemmas
merge_right-named rows h = found rows h merge_right refl

pub mono_first-named : (rows : List Row) → HoldsLibrary rows → row_named rows (codes "mono_first") ≡ Some mono_first
unfolding lemma_table lemma_groups first_lemmas rearranging_lemmas negation_lemmas sign_lemmas inverse_lemmas quotient_lemmas fraction_lemmas fraction_product_lemmas fraction_power_lemmas inequation_lemmas comparison_lemmas node_sum_lemmas node_pair_lemmas node_product_lemmas merging_lemmas
mono_first-named rows h = found rows h mono_first refl

pub mono_next-named : (rows : List Row) → HoldsLibrary rows → row_named rows (codes "mono_next") ≡ Some mono_next
unfolding lemma_table lemma_groups first_lemmas rearranging_lemmas negation_lemmas sign_lemmas inverse_lemmas quotient_lemmas fraction_lemmas fraction_product_lemmas fraction_power_lemmas inequation_lemmas comparison_lemmas node_sum_lemmas node_pair_lemmas node_product_lemmas merging_lemmas
mono_next-named rows h = found rows h mono_next refl

pub mono_one_more-named : (rows : List Row) → HoldsLibrary rows → row_named rows (codes "mono_one_more") ≡ Some mono_one_more
unfolding lemma_table lemma_groups first_lemmas rearranging_lemmas negation_lemmas sign_lemmas inverse_lemmas quotient_lemmas fraction_lemmas fraction_product_lemmas fraction_power_lemmas inequation_lemmas comparison_lemmas node_sum_lemmas node_pair_lemmas node_product_lemmas merging_lemmas
mono_one_more-named rows h = found rows h mono_one_more refl

pub mono_again-named : (rows : List Row) → HoldsLibrary rows → row_named rows (codes "mono_again") ≡ Some mono_again
unfolding lemma_table lemma_groups first_lemmas rearranging_lemmas negation_lemmas sign_lemmas inverse_lemmas quotient_lemmas fraction_lemmas fraction_product_lemmas fraction_power_lemmas inequation_lemmas comparison_lemmas node_sum_lemmas node_pair_lemmas node_product_lemmas merging_lemmas
mono_again-named rows h = found rows h mono_again refl

pub first_one-named : (rows : List Row) → HoldsLibrary rows → row_named rows (codes "first_one") ≡ Some first_one
unfolding lemma_table lemma_groups first_lemmas rearranging_lemmas negation_lemmas sign_lemmas inverse_lemmas quotient_lemmas fraction_lemmas fraction_product_lemmas fraction_power_lemmas inequation_lemmas comparison_lemmas node_sum_lemmas node_pair_lemmas node_product_lemmas merging_lemmas written_term_lemmas
first_one-named rows h = found rows h first_one refl

pub first_neg-named : (rows : List Row) → HoldsLibrary rows → row_named rows (codes "first_neg") ≡ Some first_neg
unfolding lemma_table lemma_groups first_lemmas rearranging_lemmas negation_lemmas sign_lemmas inverse_lemmas quotient_lemmas fraction_lemmas fraction_product_lemmas fraction_power_lemmas inequation_lemmas comparison_lemmas node_sum_lemmas node_pair_lemmas node_product_lemmas merging_lemmas written_term_lemmas
first_neg-named rows h = found rows h first_neg refl

pub first_neg_one-named : (rows : List Row) → HoldsLibrary rows → row_named rows (codes "first_neg_one") ≡ Some first_neg_one
unfolding lemma_table lemma_groups first_lemmas rearranging_lemmas negation_lemmas sign_lemmas inverse_lemmas quotient_lemmas fraction_lemmas fraction_product_lemmas fraction_power_lemmas inequation_lemmas comparison_lemmas node_sum_lemmas node_pair_lemmas node_product_lemmas merging_lemmas written_term_lemmas
first_neg_one-named rows h = found rows h first_neg_one refl

pub first_const-named : (rows : List Row) → HoldsLibrary rows → row_named rows (codes "first_const") ≡ Some first_const
unfolding lemma_table lemma_groups first_lemmas rearranging_lemmas negation_lemmas sign_lemmas inverse_lemmas quotient_lemmas fraction_lemmas fraction_product_lemmas fraction_power_lemmas inequation_lemmas comparison_lemmas node_sum_lemmas node_pair_lemmas node_product_lemmas merging_lemmas written_term_lemmas
first_const-named rows h = found rows h first_const refl

pub next_coef-named : (rows : List Row) → HoldsLibrary rows → row_named rows (codes "next_coef") ≡ Some next_coef
unfolding lemma_table lemma_groups first_lemmas rearranging_lemmas negation_lemmas sign_lemmas inverse_lemmas quotient_lemmas fraction_lemmas fraction_product_lemmas fraction_power_lemmas inequation_lemmas comparison_lemmas node_sum_lemmas node_pair_lemmas node_product_lemmas merging_lemmas written_term_lemmas
next_coef-named rows h = found rows h next_coef refl

pub next_one-named : (rows : List Row) → HoldsLibrary rows → row_named rows (codes "next_one") ≡ Some next_one
unfolding lemma_table lemma_groups first_lemmas rearranging_lemmas negation_lemmas sign_lemmas inverse_lemmas quotient_lemmas fraction_lemmas fraction_product_lemmas fraction_power_lemmas inequation_lemmas comparison_lemmas node_sum_lemmas node_pair_lemmas node_product_lemmas merging_lemmas written_term_lemmas
next_one-named rows h = found rows h next_one refl

pub next_neg-named : (rows : List Row) → HoldsLibrary rows → row_named rows (codes "next_neg") ≡ Some next_neg
unfolding lemma_table lemma_groups first_lemmas rearranging_lemmas negation_lemmas sign_lemmas inverse_lemmas quotient_lemmas fraction_lemmas fraction_product_lemmas fraction_power_lemmas inequation_lemmas comparison_lemmas node_sum_lemmas node_pair_lemmas node_product_lemmas merging_lemmas written_term_lemmas
next_neg-named rows h = found rows h next_neg refl

pub next_neg_one-named : (rows : List Row) → HoldsLibrary rows → row_named rows (codes "next_neg_one") ≡ Some next_neg_one
unfolding lemma_table lemma_groups first_lemmas rearranging_lemmas negation_lemmas sign_lemmas inverse_lemmas quotient_lemmas fraction_lemmas fraction_product_lemmas fraction_power_lemmas inequation_lemmas comparison_lemmas node_sum_lemmas node_pair_lemmas node_product_lemmas merging_lemmas written_term_lemmas
next_neg_one-named rows h = found rows h next_neg_one refl

pub next_const-named : (rows : List Row) → HoldsLibrary rows → row_named rows (codes "next_const") ≡ Some next_const
unfolding lemma_table lemma_groups first_lemmas rearranging_lemmas negation_lemmas sign_lemmas inverse_lemmas quotient_lemmas fraction_lemmas fraction_product_lemmas fraction_power_lemmas inequation_lemmas comparison_lemmas node_sum_lemmas node_pair_lemmas node_product_lemmas merging_lemmas written_term_lemmas
next_const-named rows h = found rows h next_const refl

pub next_const_neg-named : (rows : List Row) → HoldsLibrary rows → row_named rows (codes "next_const_neg") ≡ Some next_const_neg
unfolding lemma_table lemma_groups first_lemmas rearranging_lemmas negation_lemmas sign_lemmas inverse_lemmas quotient_lemmas fraction_lemmas fraction_product_lemmas fraction_power_lemmas inequation_lemmas comparison_lemmas node_sum_lemmas node_pair_lemmas node_product_lemmas merging_lemmas written_term_lemmas
next_const_neg-named rows h = found rows h next_const_neg refl

pub eq_of_sub-named : (rows : List Row) → HoldsLibrary rows → row_named rows (codes "eq_of_sub") ≡ Some eq_of_sub
unfolding lemma_table lemma_groups first_lemmas rearranging_lemmas negation_lemmas sign_lemmas inverse_lemmas quotient_lemmas fraction_lemmas fraction_product_lemmas fraction_power_lemmas inequation_lemmas comparison_lemmas node_sum_lemmas node_pair_lemmas node_product_lemmas merging_lemmas written_term_lemmas combination_lemmas
eq_of_sub-named rows h = found rows h eq_of_sub refl

pub sub_self_of-named : (rows : List Row) → HoldsLibrary rows → row_named rows (codes "sub_self_of") ≡ Some sub_self_of
unfolding lemma_table lemma_groups first_lemmas rearranging_lemmas negation_lemmas sign_lemmas inverse_lemmas quotient_lemmas fraction_lemmas fraction_product_lemmas fraction_power_lemmas inequation_lemmas comparison_lemmas node_sum_lemmas node_pair_lemmas node_product_lemmas merging_lemmas written_term_lemmas combination_lemmas
sub_self_of-named rows h = found rows h sub_self_of refl

pub eq_of_combo-named : (rows : List Row) → HoldsLibrary rows → row_named rows (codes "eq_of_combo") ≡ Some eq_of_combo
unfolding lemma_table lemma_groups first_lemmas rearranging_lemmas negation_lemmas sign_lemmas inverse_lemmas quotient_lemmas fraction_lemmas fraction_product_lemmas fraction_power_lemmas inequation_lemmas comparison_lemmas node_sum_lemmas node_pair_lemmas node_product_lemmas merging_lemmas written_term_lemmas combination_lemmas
eq_of_combo-named rows h = found rows h eq_of_combo refl

pub add_nodes-named : (rows : List Row) → HoldsLibrary rows → row_named rows (codes "add_nodes") ≡ Some add_nodes
unfolding lemma_table lemma_groups first_lemmas rearranging_lemmas negation_lemmas sign_lemmas inverse_lemmas quotient_lemmas fraction_lemmas fraction_product_lemmas fraction_power_lemmas inequation_lemmas comparison_lemmas node_sum_lemmas node_pair_lemmas node_product_lemmas merging_lemmas written_term_lemmas combination_lemmas
add_nodes-named rows h = found rows h add_nodes refl

pub add_nodes_zero-named : (rows : List Row) → HoldsLibrary rows → row_named rows (codes "add_nodes_zero") ≡ Some add_nodes_zero
unfolding lemma_table lemma_groups first_lemmas rearranging_lemmas negation_lemmas sign_lemmas inverse_lemmas quotient_lemmas fraction_lemmas fraction_product_lemmas fraction_power_lemmas inequation_lemmas comparison_lemmas node_sum_lemmas node_pair_lemmas node_product_lemmas merging_lemmas written_term_lemmas combination_lemmas
add_nodes_zero-named rows h = found rows h add_nodes_zero refl

pub mul_unit-named : (rows : List Row) → HoldsLibrary rows → row_named rows (codes "mul_unit") ≡ Some mul_unit
unfolding lemma_table lemma_groups first_lemmas rearranging_lemmas negation_lemmas sign_lemmas inverse_lemmas quotient_lemmas fraction_lemmas fraction_product_lemmas fraction_power_lemmas inequation_lemmas comparison_lemmas node_sum_lemmas node_pair_lemmas node_product_lemmas merging_lemmas written_term_lemmas combination_lemmas
mul_unit-named rows h = found rows h mul_unit refl

pub mul_unit_join-named : (rows : List Row) → HoldsLibrary rows → row_named rows (codes "mul_unit_join") ≡ Some mul_unit_join
unfolding lemma_table lemma_groups first_lemmas rearranging_lemmas negation_lemmas sign_lemmas inverse_lemmas quotient_lemmas fraction_lemmas fraction_product_lemmas fraction_power_lemmas inequation_lemmas comparison_lemmas node_sum_lemmas node_pair_lemmas node_product_lemmas merging_lemmas written_term_lemmas combination_lemmas
mul_unit_join-named rows h = found rows h mul_unit_join refl

pub distrib_back-named : (rows : List Row) → HoldsLibrary rows → row_named rows (codes "distrib_back") ≡ Some distrib_back
unfolding lemma_table lemma_groups first_lemmas rearranging_lemmas negation_lemmas sign_lemmas inverse_lemmas quotient_lemmas fraction_lemmas fraction_product_lemmas fraction_power_lemmas inequation_lemmas comparison_lemmas node_sum_lemmas node_pair_lemmas node_product_lemmas merging_lemmas written_term_lemmas combination_lemmas
distrib_back-named rows h = found rows h distrib_back refl

pub one_nsmul-named : (rows : List Row) → HoldsLibrary rows → row_named rows (codes "one_nsmul") ≡ Some one_nsmul
unfolding lemma_table lemma_groups first_lemmas rearranging_lemmas negation_lemmas sign_lemmas inverse_lemmas quotient_lemmas fraction_lemmas fraction_product_lemmas fraction_power_lemmas inequation_lemmas comparison_lemmas node_sum_lemmas node_pair_lemmas node_product_lemmas merging_lemmas written_term_lemmas combination_lemmas multiple_lemmas
one_nsmul-named rows h = found rows h one_nsmul refl

pub atom_sum-named : (rows : List Row) → HoldsLibrary rows → row_named rows (codes "atom_sum") ≡ Some atom_sum
unfolding lemma_table lemma_groups first_lemmas rearranging_lemmas negation_lemmas sign_lemmas inverse_lemmas quotient_lemmas fraction_lemmas fraction_product_lemmas fraction_power_lemmas inequation_lemmas comparison_lemmas node_sum_lemmas node_pair_lemmas node_product_lemmas merging_lemmas written_term_lemmas combination_lemmas multiple_lemmas
atom_sum-named rows h = found rows h atom_sum refl

pub nsmul_zero-named : (rows : List Row) → HoldsLibrary rows → row_named rows (codes "nsmul_zero") ≡ Some nsmul_zero
unfolding lemma_table lemma_groups first_lemmas rearranging_lemmas negation_lemmas sign_lemmas inverse_lemmas quotient_lemmas fraction_lemmas fraction_product_lemmas fraction_power_lemmas inequation_lemmas comparison_lemmas node_sum_lemmas node_pair_lemmas node_product_lemmas merging_lemmas written_term_lemmas combination_lemmas multiple_lemmas
nsmul_zero-named rows h = found rows h nsmul_zero refl

pub nsmul_collect-named : (rows : List Row) → HoldsLibrary rows → row_named rows (codes "nsmul_collect") ≡ Some nsmul_collect
unfolding lemma_table lemma_groups first_lemmas rearranging_lemmas negation_lemmas sign_lemmas inverse_lemmas quotient_lemmas fraction_lemmas fraction_product_lemmas fraction_power_lemmas inequation_lemmas comparison_lemmas node_sum_lemmas node_pair_lemmas node_product_lemmas merging_lemmas written_term_lemmas combination_lemmas multiple_lemmas
nsmul_collect-named rows h = found rows h nsmul_collect refl

pub nsmul_nsmul-named : (rows : List Row) → HoldsLibrary rows → row_named rows (codes "nsmul_nsmul") ≡ Some nsmul_nsmul
unfolding lemma_table lemma_groups first_lemmas rearranging_lemmas negation_lemmas sign_lemmas inverse_lemmas quotient_lemmas fraction_lemmas fraction_product_lemmas fraction_power_lemmas inequation_lemmas comparison_lemmas node_sum_lemmas node_pair_lemmas node_product_lemmas merging_lemmas written_term_lemmas combination_lemmas multiple_lemmas
nsmul_nsmul-named rows h = found rows h nsmul_nsmul refl

pub nsmul_sum-named : (rows : List Row) → HoldsLibrary rows → row_named rows (codes "nsmul_sum") ≡ Some nsmul_sum
unfolding lemma_table lemma_groups first_lemmas rearranging_lemmas negation_lemmas sign_lemmas inverse_lemmas quotient_lemmas fraction_lemmas fraction_product_lemmas fraction_power_lemmas inequation_lemmas comparison_lemmas node_sum_lemmas node_pair_lemmas node_product_lemmas merging_lemmas written_term_lemmas combination_lemmas multiple_lemmas
nsmul_sum-named rows h = found rows h nsmul_sum refl

pub nsmul_neg-named : (rows : List Row) → HoldsLibrary rows → row_named rows (codes "nsmul_neg") ≡ Some nsmul_neg
unfolding lemma_table lemma_groups first_lemmas rearranging_lemmas negation_lemmas sign_lemmas inverse_lemmas quotient_lemmas fraction_lemmas fraction_product_lemmas fraction_power_lemmas inequation_lemmas comparison_lemmas node_sum_lemmas node_pair_lemmas node_product_lemmas merging_lemmas written_term_lemmas combination_lemmas multiple_lemmas
nsmul_neg-named rows h = found rows h nsmul_neg refl

pub neg_sum_pos-named : (rows : List Row) → HoldsLibrary rows → row_named rows (codes "neg_sum_pos") ≡ Some neg_sum_pos
unfolding lemma_table lemma_groups first_lemmas rearranging_lemmas negation_lemmas sign_lemmas inverse_lemmas quotient_lemmas fraction_lemmas fraction_product_lemmas fraction_power_lemmas inequation_lemmas comparison_lemmas node_sum_lemmas node_pair_lemmas node_product_lemmas merging_lemmas written_term_lemmas combination_lemmas multiple_lemmas multiple_sum_lemmas
neg_sum_pos-named rows h = found rows h neg_sum_pos refl

pub neg_sum_neg-named : (rows : List Row) → HoldsLibrary rows → row_named rows (codes "neg_sum_neg") ≡ Some neg_sum_neg
unfolding lemma_table lemma_groups first_lemmas rearranging_lemmas negation_lemmas sign_lemmas inverse_lemmas quotient_lemmas fraction_lemmas fraction_product_lemmas fraction_power_lemmas inequation_lemmas comparison_lemmas node_sum_lemmas node_pair_lemmas node_product_lemmas merging_lemmas written_term_lemmas combination_lemmas multiple_lemmas multiple_sum_lemmas
neg_sum_neg-named rows h = found rows h neg_sum_neg refl

pub sum_drop-named : (rows : List Row) → HoldsLibrary rows → row_named rows (codes "sum_drop") ≡ Some sum_drop
unfolding lemma_table lemma_groups first_lemmas rearranging_lemmas negation_lemmas sign_lemmas inverse_lemmas quotient_lemmas fraction_lemmas fraction_product_lemmas fraction_power_lemmas inequation_lemmas comparison_lemmas node_sum_lemmas node_pair_lemmas node_product_lemmas merging_lemmas written_term_lemmas combination_lemmas multiple_lemmas multiple_sum_lemmas
sum_drop-named rows h = found rows h sum_drop refl

pub sum_first-named : (rows : List Row) → HoldsLibrary rows → row_named rows (codes "sum_first") ≡ Some sum_first
unfolding lemma_table lemma_groups first_lemmas rearranging_lemmas negation_lemmas sign_lemmas inverse_lemmas quotient_lemmas fraction_lemmas fraction_product_lemmas fraction_power_lemmas inequation_lemmas comparison_lemmas node_sum_lemmas node_pair_lemmas node_product_lemmas merging_lemmas written_term_lemmas combination_lemmas multiple_lemmas multiple_sum_lemmas
sum_first-named rows h = found rows h sum_first refl

pub sum_first_neg_one-named : (rows : List Row) → HoldsLibrary rows → row_named rows (codes "sum_first_neg_one") ≡ Some sum_first_neg_one
unfolding lemma_table lemma_groups first_lemmas rearranging_lemmas negation_lemmas sign_lemmas inverse_lemmas quotient_lemmas fraction_lemmas fraction_product_lemmas fraction_power_lemmas inequation_lemmas comparison_lemmas node_sum_lemmas node_pair_lemmas node_product_lemmas merging_lemmas written_term_lemmas combination_lemmas multiple_lemmas multiple_sum_lemmas
sum_first_neg_one-named rows h = found rows h sum_first_neg_one refl

pub sum_next-named : (rows : List Row) → HoldsLibrary rows → row_named rows (codes "sum_next") ≡ Some sum_next
unfolding lemma_table lemma_groups first_lemmas rearranging_lemmas negation_lemmas sign_lemmas inverse_lemmas quotient_lemmas fraction_lemmas fraction_product_lemmas fraction_power_lemmas inequation_lemmas comparison_lemmas node_sum_lemmas node_pair_lemmas node_product_lemmas merging_lemmas written_term_lemmas combination_lemmas multiple_lemmas multiple_sum_lemmas
sum_next-named rows h = found rows h sum_next refl

pub sum_next_neg-named : (rows : List Row) → HoldsLibrary rows → row_named rows (codes "sum_next_neg") ≡ Some sum_next_neg
unfolding lemma_table lemma_groups first_lemmas rearranging_lemmas negation_lemmas sign_lemmas inverse_lemmas quotient_lemmas fraction_lemmas fraction_product_lemmas fraction_power_lemmas inequation_lemmas comparison_lemmas node_sum_lemmas node_pair_lemmas node_product_lemmas merging_lemmas written_term_lemmas combination_lemmas multiple_lemmas multiple_sum_lemmas
sum_next_neg-named rows h = found rows h sum_next_neg refl

pub sum_next_neg_one-named : (rows : List Row) → HoldsLibrary rows → row_named rows (codes "sum_next_neg_one") ≡ Some sum_next_neg_one
unfolding lemma_table lemma_groups first_lemmas rearranging_lemmas negation_lemmas sign_lemmas inverse_lemmas quotient_lemmas fraction_lemmas fraction_product_lemmas fraction_power_lemmas inequation_lemmas comparison_lemmas node_sum_lemmas node_pair_lemmas node_product_lemmas merging_lemmas written_term_lemmas combination_lemmas multiple_lemmas multiple_sum_lemmas
sum_next_neg_one-named rows h = found rows h sum_next_neg_one refl

pub atom_word-named : (rows : List Row) → HoldsLibrary rows → row_named rows (codes "atom_word") ≡ Some atom_word
unfolding lemma_table lemma_groups first_lemmas rearranging_lemmas negation_lemmas sign_lemmas inverse_lemmas quotient_lemmas fraction_lemmas fraction_product_lemmas fraction_power_lemmas inequation_lemmas comparison_lemmas node_sum_lemmas node_pair_lemmas node_product_lemmas merging_lemmas written_term_lemmas combination_lemmas multiple_lemmas multiple_sum_lemmas word_lemmas
atom_word-named rows h = found rows h atom_word refl

pub word_cancel-named : (rows : List Row) → HoldsLibrary rows → row_named rows (codes "word_cancel") ≡ Some word_cancel
unfolding lemma_table lemma_groups first_lemmas rearranging_lemmas negation_lemmas sign_lemmas inverse_lemmas quotient_lemmas fraction_lemmas fraction_product_lemmas fraction_power_lemmas inequation_lemmas comparison_lemmas node_sum_lemmas node_pair_lemmas node_product_lemmas merging_lemmas written_term_lemmas combination_lemmas multiple_lemmas multiple_sum_lemmas word_lemmas
word_cancel-named rows h = found rows h word_cancel refl

pub word_inv-named : (rows : List Row) → HoldsLibrary rows → row_named rows (codes "word_inv") ≡ Some word_inv
unfolding lemma_table lemma_groups first_lemmas rearranging_lemmas negation_lemmas sign_lemmas inverse_lemmas quotient_lemmas fraction_lemmas fraction_product_lemmas fraction_power_lemmas inequation_lemmas comparison_lemmas node_sum_lemmas node_pair_lemmas node_product_lemmas merging_lemmas written_term_lemmas combination_lemmas multiple_lemmas multiple_sum_lemmas word_lemmas
word_inv-named rows h = found rows h word_inv refl

pub one_inv-named : (rows : List Row) → HoldsLibrary rows → row_named rows (codes "one_inv") ≡ Some one_inv
unfolding lemma_table lemma_groups first_lemmas rearranging_lemmas negation_lemmas sign_lemmas inverse_lemmas quotient_lemmas fraction_lemmas fraction_product_lemmas fraction_power_lemmas inequation_lemmas comparison_lemmas node_sum_lemmas node_pair_lemmas node_product_lemmas merging_lemmas written_term_lemmas combination_lemmas multiple_lemmas multiple_sum_lemmas word_lemmas
one_inv-named rows h = found rows h one_inv refl

pub word_inv_end-named : (rows : List Row) → HoldsLibrary rows → row_named rows (codes "word_inv_end") ≡ Some word_inv_end
unfolding lemma_table lemma_groups first_lemmas rearranging_lemmas negation_lemmas sign_lemmas inverse_lemmas quotient_lemmas fraction_lemmas fraction_product_lemmas fraction_power_lemmas inequation_lemmas comparison_lemmas node_sum_lemmas node_pair_lemmas node_product_lemmas merging_lemmas written_term_lemmas combination_lemmas multiple_lemmas multiple_sum_lemmas word_lemmas
word_inv_end-named rows h = found rows h word_inv_end refl

pub inv_of_word-named : (rows : List Row) → HoldsLibrary rows → row_named rows (codes "inv_of_word") ≡ Some inv_of_word
unfolding lemma_table lemma_groups first_lemmas rearranging_lemmas negation_lemmas sign_lemmas inverse_lemmas quotient_lemmas fraction_lemmas fraction_product_lemmas fraction_power_lemmas inequation_lemmas comparison_lemmas node_sum_lemmas node_pair_lemmas node_product_lemmas merging_lemmas written_term_lemmas combination_lemmas multiple_lemmas multiple_sum_lemmas word_lemmas
inv_of_word-named rows h = found rows h inv_of_word refl

pub div_of_word-named : (rows : List Row) → HoldsLibrary rows → row_named rows (codes "div_of_word") ≡ Some div_of_word
unfolding lemma_table lemma_groups first_lemmas rearranging_lemmas negation_lemmas sign_lemmas inverse_lemmas quotient_lemmas fraction_lemmas fraction_product_lemmas fraction_power_lemmas inequation_lemmas comparison_lemmas node_sum_lemmas node_pair_lemmas node_product_lemmas merging_lemmas written_term_lemmas combination_lemmas multiple_lemmas multiple_sum_lemmas word_lemmas
div_of_word-named rows h = found rows h div_of_word refl

pub syllable_mul-named : (rows : List Row) → HoldsLibrary rows → row_named rows (codes "syllable_mul") ≡ Some syllable_mul
unfolding lemma_table lemma_groups first_lemmas rearranging_lemmas negation_lemmas sign_lemmas inverse_lemmas quotient_lemmas fraction_lemmas fraction_product_lemmas fraction_power_lemmas inequation_lemmas comparison_lemmas node_sum_lemmas node_pair_lemmas node_product_lemmas merging_lemmas written_term_lemmas combination_lemmas multiple_lemmas multiple_sum_lemmas word_lemmas
syllable_mul-named rows h = found rows h syllable_mul refl

pub syllable_pow-named : (rows : List Row) → HoldsLibrary rows → row_named rows (codes "syllable_pow") ≡ Some syllable_pow
unfolding lemma_table lemma_groups first_lemmas rearranging_lemmas negation_lemmas sign_lemmas inverse_lemmas quotient_lemmas fraction_lemmas fraction_product_lemmas fraction_power_lemmas inequation_lemmas comparison_lemmas node_sum_lemmas node_pair_lemmas node_product_lemmas merging_lemmas written_term_lemmas combination_lemmas multiple_lemmas multiple_sum_lemmas word_lemmas
syllable_pow-named rows h = found rows h syllable_pow refl

pub syllable_inv_neg-named : (rows : List Row) → HoldsLibrary rows → row_named rows (codes "syllable_inv_neg") ≡ Some syllable_inv_neg
unfolding lemma_table lemma_groups first_lemmas rearranging_lemmas negation_lemmas sign_lemmas inverse_lemmas quotient_lemmas fraction_lemmas fraction_product_lemmas fraction_power_lemmas inequation_lemmas comparison_lemmas node_sum_lemmas node_pair_lemmas node_product_lemmas merging_lemmas written_term_lemmas combination_lemmas multiple_lemmas multiple_sum_lemmas word_lemmas
syllable_inv_neg-named rows h = found rows h syllable_inv_neg refl

pub one_mul_pow-named : (rows : List Row) → HoldsLibrary rows → row_named rows (codes "one_mul_pow") ≡ Some one_mul_pow
unfolding lemma_table lemma_groups first_lemmas rearranging_lemmas negation_lemmas sign_lemmas inverse_lemmas quotient_lemmas fraction_lemmas fraction_product_lemmas fraction_power_lemmas inequation_lemmas comparison_lemmas node_sum_lemmas node_pair_lemmas node_product_lemmas merging_lemmas written_term_lemmas combination_lemmas multiple_lemmas multiple_sum_lemmas word_lemmas
one_mul_pow-named rows h = found rows h one_mul_pow refl

pub zpow_neg_lit-named : (rows : List Row) → HoldsLibrary rows → row_named rows (codes "zpow_neg_lit") ≡ Some zpow_neg_lit
unfolding lemma_table lemma_groups first_lemmas rearranging_lemmas negation_lemmas sign_lemmas inverse_lemmas quotient_lemmas fraction_lemmas fraction_product_lemmas fraction_power_lemmas inequation_lemmas comparison_lemmas node_sum_lemmas node_pair_lemmas node_product_lemmas merging_lemmas written_term_lemmas combination_lemmas multiple_lemmas multiple_sum_lemmas word_lemmas
zpow_neg_lit-named rows h = found rows h zpow_neg_lit refl

pub word_first-named : (rows : List Row) → HoldsLibrary rows → row_named rows (codes "word_first") ≡ Some word_first
unfolding lemma_table lemma_groups first_lemmas rearranging_lemmas negation_lemmas sign_lemmas inverse_lemmas quotient_lemmas fraction_lemmas fraction_product_lemmas fraction_power_lemmas inequation_lemmas comparison_lemmas node_sum_lemmas node_pair_lemmas node_product_lemmas merging_lemmas written_term_lemmas combination_lemmas multiple_lemmas multiple_sum_lemmas word_lemmas
word_first-named rows h = found rows h word_first refl

pub pos_of_nonneg_ne-named : (rows : List Row) → HoldsLibrary rows → row_named rows (codes "pos_of_nonneg_ne") ≡ Some pos_of_nonneg_ne
unfolding lemma_table lemma_groups first_lemmas rearranging_lemmas negation_lemmas sign_lemmas inverse_lemmas quotient_lemmas fraction_lemmas fraction_product_lemmas fraction_power_lemmas inequation_lemmas comparison_lemmas node_sum_lemmas node_pair_lemmas node_product_lemmas merging_lemmas written_term_lemmas combination_lemmas multiple_lemmas multiple_sum_lemmas word_lemmas positivity_lemmas
pos_of_nonneg_ne-named rows h = found rows h pos_of_nonneg_ne refl

pub add_pos_nonneg-named : (rows : List Row) → HoldsLibrary rows → row_named rows (codes "add_pos_nonneg") ≡ Some add_pos_nonneg
unfolding lemma_table lemma_groups first_lemmas rearranging_lemmas negation_lemmas sign_lemmas inverse_lemmas quotient_lemmas fraction_lemmas fraction_product_lemmas fraction_power_lemmas inequation_lemmas comparison_lemmas node_sum_lemmas node_pair_lemmas node_product_lemmas merging_lemmas written_term_lemmas combination_lemmas multiple_lemmas multiple_sum_lemmas word_lemmas positivity_lemmas
add_pos_nonneg-named rows h = found rows h add_pos_nonneg refl

pub add_nonneg_pos-named : (rows : List Row) → HoldsLibrary rows → row_named rows (codes "add_nonneg_pos") ≡ Some add_nonneg_pos
unfolding lemma_table lemma_groups first_lemmas rearranging_lemmas negation_lemmas sign_lemmas inverse_lemmas quotient_lemmas fraction_lemmas fraction_product_lemmas fraction_power_lemmas inequation_lemmas comparison_lemmas node_sum_lemmas node_pair_lemmas node_product_lemmas merging_lemmas written_term_lemmas combination_lemmas multiple_lemmas multiple_sum_lemmas word_lemmas positivity_lemmas
add_nonneg_pos-named rows h = found rows h add_nonneg_pos refl

pub add_nonneg-named : (rows : List Row) → HoldsLibrary rows → row_named rows (codes "add_nonneg") ≡ Some add_nonneg
unfolding lemma_table lemma_groups first_lemmas rearranging_lemmas negation_lemmas sign_lemmas inverse_lemmas quotient_lemmas fraction_lemmas fraction_product_lemmas fraction_power_lemmas inequation_lemmas comparison_lemmas node_sum_lemmas node_pair_lemmas node_product_lemmas merging_lemmas written_term_lemmas combination_lemmas multiple_lemmas multiple_sum_lemmas word_lemmas positivity_lemmas
add_nonneg-named rows h = found rows h add_nonneg refl

pub pow_zero_pos-named : (rows : List Row) → HoldsLibrary rows → row_named rows (codes "pow_zero_pos") ≡ Some pow_zero_pos
unfolding lemma_table lemma_groups first_lemmas rearranging_lemmas negation_lemmas sign_lemmas inverse_lemmas quotient_lemmas fraction_lemmas fraction_product_lemmas fraction_power_lemmas inequation_lemmas comparison_lemmas node_sum_lemmas node_pair_lemmas node_product_lemmas merging_lemmas written_term_lemmas combination_lemmas multiple_lemmas multiple_sum_lemmas word_lemmas positivity_lemmas
pow_zero_pos-named rows h = found rows h pow_zero_pos refl

pub even_pow_nonneg-named : (rows : List Row) → HoldsLibrary rows → row_named rows (codes "even_pow_nonneg") ≡ Some even_pow_nonneg
unfolding lemma_table lemma_groups first_lemmas rearranging_lemmas negation_lemmas sign_lemmas inverse_lemmas quotient_lemmas fraction_lemmas fraction_product_lemmas fraction_power_lemmas inequation_lemmas comparison_lemmas node_sum_lemmas node_pair_lemmas node_product_lemmas merging_lemmas written_term_lemmas combination_lemmas multiple_lemmas multiple_sum_lemmas word_lemmas positivity_lemmas
even_pow_nonneg-named rows h = found rows h even_pow_nonneg refl

pub even_pow_pos-named : (rows : List Row) → HoldsLibrary rows → row_named rows (codes "even_pow_pos") ≡ Some even_pow_pos
unfolding lemma_table lemma_groups first_lemmas rearranging_lemmas negation_lemmas sign_lemmas inverse_lemmas quotient_lemmas fraction_lemmas fraction_product_lemmas fraction_power_lemmas inequation_lemmas comparison_lemmas node_sum_lemmas node_pair_lemmas node_product_lemmas merging_lemmas written_term_lemmas combination_lemmas multiple_lemmas multiple_sum_lemmas word_lemmas positivity_lemmas
even_pow_pos-named rows h = found rows h even_pow_pos refl

pub div_nonneg-named : (rows : List Row) → HoldsLibrary rows → row_named rows (codes "div_nonneg") ≡ Some div_nonneg
unfolding lemma_table lemma_groups first_lemmas rearranging_lemmas negation_lemmas sign_lemmas inverse_lemmas quotient_lemmas fraction_lemmas fraction_product_lemmas fraction_power_lemmas inequation_lemmas comparison_lemmas node_sum_lemmas node_pair_lemmas node_product_lemmas merging_lemmas written_term_lemmas combination_lemmas multiple_lemmas multiple_sum_lemmas word_lemmas positivity_lemmas
div_nonneg-named rows h = found rows h div_nonneg refl

pub ne_zero_of_pos_order-named : (rows : List Row) → HoldsLibrary rows → row_named rows (codes "ne_zero_of_pos_order") ≡ Some ne_zero_of_pos_order
unfolding lemma_table lemma_groups first_lemmas rearranging_lemmas negation_lemmas sign_lemmas inverse_lemmas quotient_lemmas fraction_lemmas fraction_product_lemmas fraction_power_lemmas inequation_lemmas comparison_lemmas node_sum_lemmas node_pair_lemmas node_product_lemmas merging_lemmas written_term_lemmas combination_lemmas multiple_lemmas multiple_sum_lemmas word_lemmas positivity_lemmas factor_lemmas
ne_zero_of_pos_order-named rows h = found rows h ne_zero_of_pos_order refl

pub mul_pow_of-named : (rows : List Row) → HoldsLibrary rows → row_named rows (codes "mul_pow_of") ≡ Some mul_pow_of
unfolding lemma_table lemma_groups first_lemmas rearranging_lemmas negation_lemmas sign_lemmas inverse_lemmas quotient_lemmas fraction_lemmas fraction_product_lemmas fraction_power_lemmas inequation_lemmas comparison_lemmas node_sum_lemmas node_pair_lemmas node_product_lemmas merging_lemmas written_term_lemmas combination_lemmas multiple_lemmas multiple_sum_lemmas word_lemmas positivity_lemmas factor_lemmas
mul_pow_of-named rows h = found rows h mul_pow_of refl

pub pow_mul_pow-named : (rows : List Row) → HoldsLibrary rows → row_named rows (codes "pow_mul_pow") ≡ Some pow_mul_pow
unfolding lemma_table lemma_groups first_lemmas rearranging_lemmas negation_lemmas sign_lemmas inverse_lemmas quotient_lemmas fraction_lemmas fraction_product_lemmas fraction_power_lemmas inequation_lemmas comparison_lemmas node_sum_lemmas node_pair_lemmas node_product_lemmas merging_lemmas written_term_lemmas combination_lemmas multiple_lemmas multiple_sum_lemmas word_lemmas positivity_lemmas factor_lemmas
pow_mul_pow-named rows h = found rows h pow_mul_pow refl

pub sub_mul-named : (rows : List Row) → HoldsLibrary rows → row_named rows (codes "sub_mul") ≡ Some sub_mul
unfolding lemma_table lemma_groups first_lemmas rearranging_lemmas negation_lemmas sign_lemmas inverse_lemmas quotient_lemmas fraction_lemmas fraction_product_lemmas fraction_power_lemmas inequation_lemmas comparison_lemmas node_sum_lemmas node_pair_lemmas node_product_lemmas merging_lemmas written_term_lemmas combination_lemmas multiple_lemmas multiple_sum_lemmas word_lemmas positivity_lemmas factor_lemmas
sub_mul-named rows h = found rows h sub_mul refl

pub div_inv_mul-named : (rows : List Row) → HoldsLibrary rows → row_named rows (codes "div_inv_mul") ≡ Some div_inv_mul
unfolding lemma_table lemma_groups first_lemmas rearranging_lemmas negation_lemmas sign_lemmas inverse_lemmas quotient_lemmas fraction_lemmas fraction_product_lemmas fraction_power_lemmas inequation_lemmas comparison_lemmas node_sum_lemmas node_pair_lemmas node_product_lemmas merging_lemmas written_term_lemmas combination_lemmas multiple_lemmas multiple_sum_lemmas word_lemmas positivity_lemmas factor_lemmas
div_inv_mul-named rows h = found rows h div_inv_mul refl

pub inv_mul_of-named : (rows : List Row) → HoldsLibrary rows → row_named rows (codes "inv_mul_of") ≡ Some inv_mul_of
unfolding lemma_table lemma_groups first_lemmas rearranging_lemmas negation_lemmas sign_lemmas inverse_lemmas quotient_lemmas fraction_lemmas fraction_product_lemmas fraction_power_lemmas inequation_lemmas comparison_lemmas node_sum_lemmas node_pair_lemmas node_product_lemmas merging_lemmas written_term_lemmas combination_lemmas multiple_lemmas multiple_sum_lemmas word_lemmas positivity_lemmas factor_lemmas
inv_mul_of-named rows h = found rows h inv_mul_of refl

pub ne_zero_of_mul-named : (rows : List Row) → HoldsLibrary rows → row_named rows (codes "ne_zero_of_mul") ≡ Some ne_zero_of_mul
unfolding lemma_table lemma_groups first_lemmas rearranging_lemmas negation_lemmas sign_lemmas inverse_lemmas quotient_lemmas fraction_lemmas fraction_product_lemmas fraction_power_lemmas inequation_lemmas comparison_lemmas node_sum_lemmas node_pair_lemmas node_product_lemmas merging_lemmas written_term_lemmas combination_lemmas multiple_lemmas multiple_sum_lemmas word_lemmas positivity_lemmas factor_lemmas
ne_zero_of_mul-named rows h = found rows h ne_zero_of_mul refl

pub letter_node-named : (rows : List Row) → HoldsLibrary rows → row_named rows (codes "letter_node") ≡ Some letter_node
unfolding lemma_table lemma_groups first_lemmas rearranging_lemmas negation_lemmas sign_lemmas inverse_lemmas quotient_lemmas fraction_lemmas fraction_product_lemmas fraction_power_lemmas inequation_lemmas comparison_lemmas node_sum_lemmas node_pair_lemmas node_product_lemmas merging_lemmas written_term_lemmas combination_lemmas multiple_lemmas multiple_sum_lemmas word_lemmas positivity_lemmas factor_lemmas commuting_lemmas
letter_node-named rows h = found rows h letter_node refl

pub commute_one-named : (rows : List Row) → HoldsLibrary rows → row_named rows (codes "commute_one") ≡ Some commute_one
unfolding lemma_table lemma_groups first_lemmas rearranging_lemmas negation_lemmas sign_lemmas inverse_lemmas quotient_lemmas fraction_lemmas fraction_product_lemmas fraction_power_lemmas inequation_lemmas comparison_lemmas node_sum_lemmas node_pair_lemmas node_product_lemmas merging_lemmas written_term_lemmas combination_lemmas multiple_lemmas multiple_sum_lemmas word_lemmas positivity_lemmas factor_lemmas commuting_lemmas
commute_one-named rows h = found rows h commute_one refl

pub commute_double-named : (rows : List Row) → HoldsLibrary rows → row_named rows (codes "commute_double") ≡ Some commute_double
unfolding lemma_table lemma_groups first_lemmas rearranging_lemmas negation_lemmas sign_lemmas inverse_lemmas quotient_lemmas fraction_lemmas fraction_product_lemmas fraction_power_lemmas inequation_lemmas comparison_lemmas node_sum_lemmas node_pair_lemmas node_product_lemmas merging_lemmas written_term_lemmas combination_lemmas multiple_lemmas multiple_sum_lemmas word_lemmas positivity_lemmas factor_lemmas commuting_lemmas
commute_double-named rows h = found rows h commute_double refl

pub commute_odd-named : (rows : List Row) → HoldsLibrary rows → row_named rows (codes "commute_odd") ≡ Some commute_odd
unfolding lemma_table lemma_groups first_lemmas rearranging_lemmas negation_lemmas sign_lemmas inverse_lemmas quotient_lemmas fraction_lemmas fraction_product_lemmas fraction_power_lemmas inequation_lemmas comparison_lemmas node_sum_lemmas node_pair_lemmas node_product_lemmas merging_lemmas written_term_lemmas combination_lemmas multiple_lemmas multiple_sum_lemmas word_lemmas positivity_lemmas factor_lemmas commuting_lemmas
commute_odd-named rows h = found rows h commute_odd refl

pub commute_neg-named : (rows : List Row) → HoldsLibrary rows → row_named rows (codes "commute_neg") ≡ Some commute_neg
unfolding lemma_table lemma_groups first_lemmas rearranging_lemmas negation_lemmas sign_lemmas inverse_lemmas quotient_lemmas fraction_lemmas fraction_product_lemmas fraction_power_lemmas inequation_lemmas comparison_lemmas node_sum_lemmas node_pair_lemmas node_product_lemmas merging_lemmas written_term_lemmas combination_lemmas multiple_lemmas multiple_sum_lemmas word_lemmas positivity_lemmas factor_lemmas commuting_lemmas
commute_neg-named rows h = found rows h commute_neg refl

pub mul_neg_one-named : (rows : List Row) → HoldsLibrary rows → row_named rows (codes "mul_neg_one") ≡ Some mul_neg_one
unfolding lemma_table lemma_groups first_lemmas rearranging_lemmas negation_lemmas sign_lemmas inverse_lemmas quotient_lemmas fraction_lemmas fraction_product_lemmas fraction_power_lemmas inequation_lemmas comparison_lemmas node_sum_lemmas node_pair_lemmas node_product_lemmas merging_lemmas written_term_lemmas combination_lemmas multiple_lemmas multiple_sum_lemmas word_lemmas positivity_lemmas factor_lemmas commuting_lemmas
mul_neg_one-named rows h = found rows h mul_neg_one refl

pub neg_one_mul-named : (rows : List Row) → HoldsLibrary rows → row_named rows (codes "neg_one_mul") ≡ Some neg_one_mul
unfolding lemma_table lemma_groups first_lemmas rearranging_lemmas negation_lemmas sign_lemmas inverse_lemmas quotient_lemmas fraction_lemmas fraction_product_lemmas fraction_power_lemmas inequation_lemmas comparison_lemmas node_sum_lemmas node_pair_lemmas node_product_lemmas merging_lemmas written_term_lemmas combination_lemmas multiple_lemmas multiple_sum_lemmas word_lemmas positivity_lemmas factor_lemmas commuting_lemmas
neg_one_mul-named rows h = found rows h neg_one_mul refl

pub mul_drop-named : (rows : List Row) → HoldsLibrary rows → row_named rows (codes "mul_drop") ≡ Some mul_drop
unfolding lemma_table lemma_groups first_lemmas rearranging_lemmas negation_lemmas sign_lemmas inverse_lemmas quotient_lemmas fraction_lemmas fraction_product_lemmas fraction_power_lemmas inequation_lemmas comparison_lemmas node_sum_lemmas node_pair_lemmas node_product_lemmas merging_lemmas written_term_lemmas combination_lemmas multiple_lemmas multiple_sum_lemmas word_lemmas positivity_lemmas factor_lemmas commuting_lemmas
mul_drop-named rows h = found rows h mul_drop refl

pub le_of_eq-named : (rows : List Row) → HoldsLibrary rows → row_named rows (codes "le_of_eq") ≡ Some le_of_eq
unfolding lemma_table lemma_groups first_lemmas rearranging_lemmas negation_lemmas sign_lemmas inverse_lemmas quotient_lemmas fraction_lemmas fraction_product_lemmas fraction_power_lemmas inequation_lemmas comparison_lemmas node_sum_lemmas node_pair_lemmas node_product_lemmas merging_lemmas written_term_lemmas combination_lemmas multiple_lemmas multiple_sum_lemmas word_lemmas positivity_lemmas factor_lemmas commuting_lemmas joined_inequality_lemmas
le_of_eq-named rows h = found rows h le_of_eq refl

pub add_le_add_lt-named : (rows : List Row) → HoldsLibrary rows → row_named rows (codes "add_le_add_lt") ≡ Some add_le_add_lt
unfolding lemma_table lemma_groups first_lemmas rearranging_lemmas negation_lemmas sign_lemmas inverse_lemmas quotient_lemmas fraction_lemmas fraction_product_lemmas fraction_power_lemmas inequation_lemmas comparison_lemmas node_sum_lemmas node_pair_lemmas node_product_lemmas merging_lemmas written_term_lemmas combination_lemmas multiple_lemmas multiple_sum_lemmas word_lemmas positivity_lemmas factor_lemmas commuting_lemmas joined_inequality_lemmas
add_le_add_lt-named rows h = found rows h add_le_add_lt refl

pub add_le_eq-named : (rows : List Row) → HoldsLibrary rows → row_named rows (codes "add_le_eq") ≡ Some add_le_eq
unfolding lemma_table lemma_groups first_lemmas rearranging_lemmas negation_lemmas sign_lemmas inverse_lemmas quotient_lemmas fraction_lemmas fraction_product_lemmas fraction_power_lemmas inequation_lemmas comparison_lemmas node_sum_lemmas node_pair_lemmas node_product_lemmas merging_lemmas written_term_lemmas combination_lemmas multiple_lemmas multiple_sum_lemmas word_lemmas positivity_lemmas factor_lemmas commuting_lemmas joined_inequality_lemmas
add_le_eq-named rows h = found rows h add_le_eq refl

pub add_eq_le-named : (rows : List Row) → HoldsLibrary rows → row_named rows (codes "add_eq_le") ≡ Some add_eq_le
unfolding lemma_table lemma_groups first_lemmas rearranging_lemmas negation_lemmas sign_lemmas inverse_lemmas quotient_lemmas fraction_lemmas fraction_product_lemmas fraction_power_lemmas inequation_lemmas comparison_lemmas node_sum_lemmas node_pair_lemmas node_product_lemmas merging_lemmas written_term_lemmas combination_lemmas multiple_lemmas multiple_sum_lemmas word_lemmas positivity_lemmas factor_lemmas commuting_lemmas joined_inequality_lemmas
add_eq_le-named rows h = found rows h add_eq_le refl

pub add_lt_eq-named : (rows : List Row) → HoldsLibrary rows → row_named rows (codes "add_lt_eq") ≡ Some add_lt_eq
unfolding lemma_table lemma_groups first_lemmas rearranging_lemmas negation_lemmas sign_lemmas inverse_lemmas quotient_lemmas fraction_lemmas fraction_product_lemmas fraction_power_lemmas inequation_lemmas comparison_lemmas node_sum_lemmas node_pair_lemmas node_product_lemmas merging_lemmas written_term_lemmas combination_lemmas multiple_lemmas multiple_sum_lemmas word_lemmas positivity_lemmas factor_lemmas commuting_lemmas joined_inequality_lemmas
add_lt_eq-named rows h = found rows h add_lt_eq refl

pub add_eq_lt-named : (rows : List Row) → HoldsLibrary rows → row_named rows (codes "add_eq_lt") ≡ Some add_eq_lt
unfolding lemma_table lemma_groups first_lemmas rearranging_lemmas negation_lemmas sign_lemmas inverse_lemmas quotient_lemmas fraction_lemmas fraction_product_lemmas fraction_power_lemmas inequation_lemmas comparison_lemmas node_sum_lemmas node_pair_lemmas node_product_lemmas merging_lemmas written_term_lemmas combination_lemmas multiple_lemmas multiple_sum_lemmas word_lemmas positivity_lemmas factor_lemmas commuting_lemmas joined_inequality_lemmas
add_eq_lt-named rows h = found rows h add_eq_lt refl

pub sub_le_eq-named : (rows : List Row) → HoldsLibrary rows → row_named rows (codes "sub_le_eq") ≡ Some sub_le_eq
unfolding lemma_table lemma_groups first_lemmas rearranging_lemmas negation_lemmas sign_lemmas inverse_lemmas quotient_lemmas fraction_lemmas fraction_product_lemmas fraction_power_lemmas inequation_lemmas comparison_lemmas node_sum_lemmas node_pair_lemmas node_product_lemmas merging_lemmas written_term_lemmas combination_lemmas multiple_lemmas multiple_sum_lemmas word_lemmas positivity_lemmas factor_lemmas commuting_lemmas joined_inequality_lemmas
sub_le_eq-named rows h = found rows h sub_le_eq refl

pub sub_lt_eq-named : (rows : List Row) → HoldsLibrary rows → row_named rows (codes "sub_lt_eq") ≡ Some sub_lt_eq
unfolding lemma_table lemma_groups first_lemmas rearranging_lemmas negation_lemmas sign_lemmas inverse_lemmas quotient_lemmas fraction_lemmas fraction_product_lemmas fraction_power_lemmas inequation_lemmas comparison_lemmas node_sum_lemmas node_pair_lemmas node_product_lemmas merging_lemmas written_term_lemmas combination_lemmas multiple_lemmas multiple_sum_lemmas word_lemmas positivity_lemmas factor_lemmas commuting_lemmas joined_inequality_lemmas
sub_lt_eq-named rows h = found rows h sub_lt_eq refl

pub mul_le_mul_left-named : (rows : List Row) → HoldsLibrary rows → row_named rows (codes "mul_le_mul_left") ≡ Some mul_le_mul_left
unfolding lemma_table lemma_groups first_lemmas rearranging_lemmas negation_lemmas sign_lemmas inverse_lemmas quotient_lemmas fraction_lemmas fraction_product_lemmas fraction_power_lemmas inequation_lemmas comparison_lemmas node_sum_lemmas node_pair_lemmas node_product_lemmas merging_lemmas written_term_lemmas combination_lemmas multiple_lemmas multiple_sum_lemmas word_lemmas positivity_lemmas factor_lemmas commuting_lemmas joined_inequality_lemmas
mul_le_mul_left-named rows h = found rows h mul_le_mul_left refl

pub mul_lt_mul_left-named : (rows : List Row) → HoldsLibrary rows → row_named rows (codes "mul_lt_mul_left") ≡ Some mul_lt_mul_left
unfolding lemma_table lemma_groups first_lemmas rearranging_lemmas negation_lemmas sign_lemmas inverse_lemmas quotient_lemmas fraction_lemmas fraction_product_lemmas fraction_power_lemmas inequation_lemmas comparison_lemmas node_sum_lemmas node_pair_lemmas node_product_lemmas merging_lemmas written_term_lemmas combination_lemmas multiple_lemmas multiple_sum_lemmas word_lemmas positivity_lemmas factor_lemmas commuting_lemmas joined_inequality_lemmas
mul_lt_mul_left-named rows h = found rows h mul_lt_mul_left refl

pub div_le_div_right-named : (rows : List Row) → HoldsLibrary rows → row_named rows (codes "div_le_div_right") ≡ Some div_le_div_right
unfolding lemma_table lemma_groups first_lemmas rearranging_lemmas negation_lemmas sign_lemmas inverse_lemmas quotient_lemmas fraction_lemmas fraction_product_lemmas fraction_power_lemmas inequation_lemmas comparison_lemmas node_sum_lemmas node_pair_lemmas node_product_lemmas merging_lemmas written_term_lemmas combination_lemmas multiple_lemmas multiple_sum_lemmas word_lemmas positivity_lemmas factor_lemmas commuting_lemmas joined_inequality_lemmas
div_le_div_right-named rows h = found rows h div_le_div_right refl

pub div_lt_div_right-named : (rows : List Row) → HoldsLibrary rows → row_named rows (codes "div_lt_div_right") ≡ Some div_lt_div_right
unfolding lemma_table lemma_groups first_lemmas rearranging_lemmas negation_lemmas sign_lemmas inverse_lemmas quotient_lemmas fraction_lemmas fraction_product_lemmas fraction_power_lemmas inequation_lemmas comparison_lemmas node_sum_lemmas node_pair_lemmas node_product_lemmas merging_lemmas written_term_lemmas combination_lemmas multiple_lemmas multiple_sum_lemmas word_lemmas positivity_lemmas factor_lemmas commuting_lemmas joined_inequality_lemmas
div_lt_div_right-named rows h = found rows h div_lt_div_right refl

pub sub_add_cancel-named : (rows : List Row) → HoldsLibrary rows → row_named rows (codes "sub_add_cancel") ≡ Some sub_add_cancel
unfolding lemma_table lemma_groups first_lemmas rearranging_lemmas negation_lemmas sign_lemmas inverse_lemmas quotient_lemmas fraction_lemmas fraction_product_lemmas fraction_power_lemmas inequation_lemmas comparison_lemmas node_sum_lemmas node_pair_lemmas node_product_lemmas merging_lemmas written_term_lemmas combination_lemmas multiple_lemmas multiple_sum_lemmas word_lemmas positivity_lemmas factor_lemmas commuting_lemmas joined_inequality_lemmas rest_lemmas
sub_add_cancel-named rows h = found rows h sub_add_cancel refl

pub le_of_sub-named : (rows : List Row) → HoldsLibrary rows → row_named rows (codes "le_of_sub") ≡ Some le_of_sub
unfolding lemma_table lemma_groups first_lemmas rearranging_lemmas negation_lemmas sign_lemmas inverse_lemmas quotient_lemmas fraction_lemmas fraction_product_lemmas fraction_power_lemmas inequation_lemmas comparison_lemmas node_sum_lemmas node_pair_lemmas node_product_lemmas merging_lemmas written_term_lemmas combination_lemmas multiple_lemmas multiple_sum_lemmas word_lemmas positivity_lemmas factor_lemmas commuting_lemmas joined_inequality_lemmas rest_lemmas
le_of_sub-named rows h = found rows h le_of_sub refl

pub lt_of_sub-named : (rows : List Row) → HoldsLibrary rows → row_named rows (codes "lt_of_sub") ≡ Some lt_of_sub
unfolding lemma_table lemma_groups first_lemmas rearranging_lemmas negation_lemmas sign_lemmas inverse_lemmas quotient_lemmas fraction_lemmas fraction_product_lemmas fraction_power_lemmas inequation_lemmas comparison_lemmas node_sum_lemmas node_pair_lemmas node_product_lemmas merging_lemmas written_term_lemmas combination_lemmas multiple_lemmas multiple_sum_lemmas word_lemmas positivity_lemmas factor_lemmas commuting_lemmas joined_inequality_lemmas rest_lemmas
lt_of_sub-named rows h = found rows h lt_of_sub refl

pub le_of_combo-named : (rows : List Row) → HoldsLibrary rows → row_named rows (codes "le_of_combo") ≡ Some le_of_combo
unfolding lemma_table lemma_groups first_lemmas rearranging_lemmas negation_lemmas sign_lemmas inverse_lemmas quotient_lemmas fraction_lemmas fraction_product_lemmas fraction_power_lemmas inequation_lemmas comparison_lemmas node_sum_lemmas node_pair_lemmas node_product_lemmas merging_lemmas written_term_lemmas combination_lemmas multiple_lemmas multiple_sum_lemmas word_lemmas positivity_lemmas factor_lemmas commuting_lemmas joined_inequality_lemmas rest_lemmas
le_of_combo-named rows h = found rows h le_of_combo refl

pub lt_of_combo-named : (rows : List Row) → HoldsLibrary rows → row_named rows (codes "lt_of_combo") ≡ Some lt_of_combo
unfolding lemma_table lemma_groups first_lemmas rearranging_lemmas negation_lemmas sign_lemmas inverse_lemmas quotient_lemmas fraction_lemmas fraction_product_lemmas fraction_power_lemmas inequation_lemmas comparison_lemmas node_sum_lemmas node_pair_lemmas node_product_lemmas merging_lemmas written_term_lemmas combination_lemmas multiple_lemmas multiple_sum_lemmas word_lemmas positivity_lemmas factor_lemmas commuting_lemmas joined_inequality_lemmas rest_lemmas
lt_of_combo-named rows h = found rows h lt_of_combo refl

pub lt_of_combo_lt-named : (rows : List Row) → HoldsLibrary rows → row_named rows (codes "lt_of_combo_lt") ≡ Some lt_of_combo_lt
unfolding lemma_table lemma_groups first_lemmas rearranging_lemmas negation_lemmas sign_lemmas inverse_lemmas quotient_lemmas fraction_lemmas fraction_product_lemmas fraction_power_lemmas inequation_lemmas comparison_lemmas node_sum_lemmas node_pair_lemmas node_product_lemmas merging_lemmas written_term_lemmas combination_lemmas multiple_lemmas multiple_sum_lemmas word_lemmas positivity_lemmas factor_lemmas commuting_lemmas joined_inequality_lemmas rest_lemmas
lt_of_combo_lt-named rows h = found rows h lt_of_combo_lt refl

pub exp_next-named : (rows : List Row) → HoldsLibrary rows → row_named rows (codes "exp_next") ≡ Some exp_next
unfolding lemma_table lemma_groups first_lemmas rearranging_lemmas negation_lemmas sign_lemmas inverse_lemmas quotient_lemmas fraction_lemmas fraction_product_lemmas fraction_power_lemmas inequation_lemmas comparison_lemmas node_sum_lemmas node_pair_lemmas node_product_lemmas merging_lemmas written_term_lemmas combination_lemmas multiple_lemmas multiple_sum_lemmas word_lemmas positivity_lemmas factor_lemmas commuting_lemmas joined_inequality_lemmas rest_lemmas exponent_lemmas
exp_next-named rows h = found rows h exp_next refl

pub exp_first-named : (rows : List Row) → HoldsLibrary rows → row_named rows (codes "exp_first") ≡ Some exp_first
unfolding lemma_table lemma_groups first_lemmas rearranging_lemmas negation_lemmas sign_lemmas inverse_lemmas quotient_lemmas fraction_lemmas fraction_product_lemmas fraction_power_lemmas inequation_lemmas comparison_lemmas node_sum_lemmas node_pair_lemmas node_product_lemmas merging_lemmas written_term_lemmas combination_lemmas multiple_lemmas multiple_sum_lemmas word_lemmas positivity_lemmas factor_lemmas commuting_lemmas joined_inequality_lemmas rest_lemmas exponent_lemmas
exp_first-named rows h = found rows h exp_first refl

pub exp_term-named : (rows : List Row) → HoldsLibrary rows → row_named rows (codes "exp_term") ≡ Some exp_term
unfolding lemma_table lemma_groups first_lemmas rearranging_lemmas negation_lemmas sign_lemmas inverse_lemmas quotient_lemmas fraction_lemmas fraction_product_lemmas fraction_power_lemmas inequation_lemmas comparison_lemmas node_sum_lemmas node_pair_lemmas node_product_lemmas merging_lemmas written_term_lemmas combination_lemmas multiple_lemmas multiple_sum_lemmas word_lemmas positivity_lemmas factor_lemmas commuting_lemmas joined_inequality_lemmas rest_lemmas exponent_lemmas
exp_term-named rows h = found rows h exp_term refl

pub exp_const-named : (rows : List Row) → HoldsLibrary rows → row_named rows (codes "exp_const") ≡ Some exp_const
unfolding lemma_table lemma_groups first_lemmas rearranging_lemmas negation_lemmas sign_lemmas inverse_lemmas quotient_lemmas fraction_lemmas fraction_product_lemmas fraction_power_lemmas inequation_lemmas comparison_lemmas node_sum_lemmas node_pair_lemmas node_product_lemmas merging_lemmas written_term_lemmas combination_lemmas multiple_lemmas multiple_sum_lemmas word_lemmas positivity_lemmas factor_lemmas commuting_lemmas joined_inequality_lemmas rest_lemmas exponent_lemmas
exp_const-named rows h = found rows h exp_const refl

pub exp_one-named : (rows : List Row) → HoldsLibrary rows → row_named rows (codes "exp_one") ≡ Some exp_one
unfolding lemma_table lemma_groups first_lemmas rearranging_lemmas negation_lemmas sign_lemmas inverse_lemmas quotient_lemmas fraction_lemmas fraction_product_lemmas fraction_power_lemmas inequation_lemmas comparison_lemmas node_sum_lemmas node_pair_lemmas node_product_lemmas merging_lemmas written_term_lemmas combination_lemmas multiple_lemmas multiple_sum_lemmas word_lemmas positivity_lemmas factor_lemmas commuting_lemmas joined_inequality_lemmas rest_lemmas exponent_lemmas
exp_one-named rows h = found rows h exp_one refl

pub exp_zero-named : (rows : List Row) → HoldsLibrary rows → row_named rows (codes "exp_zero") ≡ Some exp_zero
unfolding lemma_table lemma_groups first_lemmas rearranging_lemmas negation_lemmas sign_lemmas inverse_lemmas quotient_lemmas fraction_lemmas fraction_product_lemmas fraction_power_lemmas inequation_lemmas comparison_lemmas node_sum_lemmas node_pair_lemmas node_product_lemmas merging_lemmas written_term_lemmas combination_lemmas multiple_lemmas multiple_sum_lemmas word_lemmas positivity_lemmas factor_lemmas commuting_lemmas joined_inequality_lemmas rest_lemmas exponent_lemmas
exp_zero-named rows h = found rows h exp_zero refl

pub exp_swap-named : (rows : List Row) → HoldsLibrary rows → row_named rows (codes "exp_swap") ≡ Some exp_swap
unfolding lemma_table lemma_groups first_lemmas rearranging_lemmas negation_lemmas sign_lemmas inverse_lemmas quotient_lemmas fraction_lemmas fraction_product_lemmas fraction_power_lemmas inequation_lemmas comparison_lemmas node_sum_lemmas node_pair_lemmas node_product_lemmas merging_lemmas written_term_lemmas combination_lemmas multiple_lemmas multiple_sum_lemmas word_lemmas positivity_lemmas factor_lemmas commuting_lemmas joined_inequality_lemmas rest_lemmas exponent_lemmas
exp_swap-named rows h = found rows h exp_swap refl

pub pow_node_mul-named : (rows : List Row) → HoldsLibrary rows → row_named rows (codes "pow_node_mul") ≡ Some pow_node_mul
unfolding lemma_table lemma_groups first_lemmas rearranging_lemmas negation_lemmas sign_lemmas inverse_lemmas quotient_lemmas fraction_lemmas fraction_product_lemmas fraction_power_lemmas inequation_lemmas comparison_lemmas node_sum_lemmas node_pair_lemmas node_product_lemmas merging_lemmas written_term_lemmas combination_lemmas multiple_lemmas multiple_sum_lemmas word_lemmas positivity_lemmas factor_lemmas commuting_lemmas joined_inequality_lemmas rest_lemmas exponent_lemmas
pow_node_mul-named rows h = found rows h pow_node_mul refl

pub one_zpow-named : (rows : List Row) → HoldsLibrary rows → row_named rows (codes "one_zpow") ≡ Some one_zpow
unfolding lemma_table lemma_groups first_lemmas rearranging_lemmas negation_lemmas sign_lemmas inverse_lemmas quotient_lemmas fraction_lemmas fraction_product_lemmas fraction_power_lemmas inequation_lemmas comparison_lemmas node_sum_lemmas node_pair_lemmas node_product_lemmas merging_lemmas written_term_lemmas combination_lemmas multiple_lemmas multiple_sum_lemmas word_lemmas positivity_lemmas factor_lemmas commuting_lemmas joined_inequality_lemmas rest_lemmas exponent_lemmas integer_power_lemmas
one_zpow-named rows h = found rows h one_zpow refl

pub syllable_inv-named : (rows : List Row) → HoldsLibrary rows → row_named rows (codes "syllable_inv") ≡ Some syllable_inv
unfolding lemma_table lemma_groups first_lemmas rearranging_lemmas negation_lemmas sign_lemmas inverse_lemmas quotient_lemmas fraction_lemmas fraction_product_lemmas fraction_power_lemmas inequation_lemmas comparison_lemmas node_sum_lemmas node_pair_lemmas node_product_lemmas merging_lemmas written_term_lemmas combination_lemmas multiple_lemmas multiple_sum_lemmas word_lemmas positivity_lemmas factor_lemmas commuting_lemmas joined_inequality_lemmas rest_lemmas exponent_lemmas integer_power_lemmas
syllable_inv-named rows h = found rows h syllable_inv refl

pub syllable_zpow-named : (rows : List Row) → HoldsLibrary rows → row_named rows (codes "syllable_zpow") ≡ Some syllable_zpow
unfolding lemma_table lemma_groups first_lemmas rearranging_lemmas negation_lemmas sign_lemmas inverse_lemmas quotient_lemmas fraction_lemmas fraction_product_lemmas fraction_power_lemmas inequation_lemmas comparison_lemmas node_sum_lemmas node_pair_lemmas node_product_lemmas merging_lemmas written_term_lemmas combination_lemmas multiple_lemmas multiple_sum_lemmas word_lemmas positivity_lemmas factor_lemmas commuting_lemmas joined_inequality_lemmas rest_lemmas exponent_lemmas integer_power_lemmas
syllable_zpow-named rows h = found rows h syllable_zpow refl

pub one_mul_zpow-named : (rows : List Row) → HoldsLibrary rows → row_named rows (codes "one_mul_zpow") ≡ Some one_mul_zpow
unfolding lemma_table lemma_groups first_lemmas rearranging_lemmas negation_lemmas sign_lemmas inverse_lemmas quotient_lemmas fraction_lemmas fraction_product_lemmas fraction_power_lemmas inequation_lemmas comparison_lemmas node_sum_lemmas node_pair_lemmas node_product_lemmas merging_lemmas written_term_lemmas combination_lemmas multiple_lemmas multiple_sum_lemmas word_lemmas positivity_lemmas factor_lemmas commuting_lemmas joined_inequality_lemmas rest_lemmas exponent_lemmas integer_power_lemmas
one_mul_zpow-named rows h = found rows h one_mul_zpow refl
