-- Rows found by their names, and what their lines ask.
use Rattle.alg_law.proofs.Named.{left_distrib-named, mul_comm-named, div_eq_mul_inv0-named}
use Rattle.alg_lemma.proofs.Named.{add_tail-named, add_tail_zero-named, add_head-named, add_head_zero-named, add_mul_right-named, add_mul_right_zero-named, add_pair_left-named, add_pair_right-named, add_pair_drop-named, add_front-named, add_front_drop-named, add_nodes-named, add_nodes_zero-named, add_add_add_comm-named, node_split-named, node_join-named, pow_mul_of-named, pow_pow_of-named, atom_node-named, mul_swap-named, mul_node-named, mul_node_zero-named, mul_same-named, mul_same_zero-named, mul_unit-named, mul_unit_join-named, distrib_back-named, pow_node-named, neg_sum-named, neg_node-named, neg_node_zero-named, leaf_mono-named, node_mono-named, node_mono_zero-named, mono_first-named, mono_next-named, mono_one_more-named, mono_again-named, first_one-named, first_neg-named, first_neg_one-named, first_const-named, next_coef-named, next_one-named, next_neg-named, next_neg_one-named, next_const-named, next_const_neg-named, eq_of_combo-named}
use Rattle.alg_build.proofs.RowFacts.{row_facts, proves-concludes}

pub ruleset nodes = (row_facts, proves-concludes, add_tail-named, add_tail_zero-named, add_head-named, add_head_zero-named, add_mul_right-named, add_mul_right_zero-named, add_pair_left-named, add_pair_right-named, add_pair_drop-named, add_front-named, add_front_drop-named, add_nodes-named, add_nodes_zero-named, add_add_add_comm-named)

pub ruleset splits = (row_facts, proves-concludes, node_split-named, node_join-named, pow_mul_of-named, pow_pow_of-named, atom_node-named)

pub ruleset factors = (row_facts, proves-concludes, mul_swap-named, mul_node-named, mul_node_zero-named, mul_same-named, mul_same_zero-named, mul_unit-named, mul_unit_join-named, left_distrib-named, distrib_back-named, pow_node-named, mul_comm-named, div_eq_mul_inv0-named)

pub ruleset negations = (row_facts, proves-concludes, neg_sum-named, neg_node-named, neg_node_zero-named)

pub ruleset monomials = (row_facts, proves-concludes, leaf_mono-named, node_mono-named, node_mono_zero-named, mono_first-named, mono_next-named, mono_one_more-named, mono_again-named)

pub ruleset terms = (row_facts, proves-concludes, first_one-named, first_neg-named, first_neg_one-named, first_const-named, next_coef-named, next_one-named, next_neg-named, next_neg_one-named, next_const-named, next_const_neg-named)

pub ruleset combinations = (row_facts, proves-concludes, eq_of_combo-named)
