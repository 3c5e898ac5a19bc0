-- Each law is found by its name.
use Rattle.std.specs.Prelude.{◌≡◌, codes, Some, refl}
use Rattle.alg_law.specs.Laws.{law_groups, law_table, row_named}
use Rattle.alg_law.specs.AdditiveLaws.{add_assoc, zero_add, add_zero, add_comm, neg_add_cancel, sub_eq_add_neg, sum_laws, zero_nsmul, succ_nsmul, add_nsmul, mul_nsmul, nsmul_add, neg_zsmul, add_zsmul, mul_zsmul, zsmul_add, multiple_laws}
use Rattle.alg_law.specs.MultiplicativeLaws.{mul_assoc, mul_comm, one_mul, mul_one, inv_mul_cancel, div_eq_mul_inv, div_eq_mul_inv0, product_laws, pow_zero, pow_succ, pow_add, pow_mul, one_pow, mul_pow, zpow_neg, zpow_neg0, zpow_add, zpow_mul, power_laws}
use Rattle.alg_law.specs.RingLaws.{left_distrib, right_distrib, zero_mul, mul_zero, semiring_laws, mul_inv_cancel0, inv_zero, one_ne_zero, inv_ne_zero, mul_ne_zero, pow_ne_zero, mul_right_ne, field_laws, mul_ne_zero_ord, pow_ne_zero_ord, ne_symm, neg_ne_zero, add_right_ne, unequal_laws}
use Rattle.alg_law.specs.OrderLaws.{le_refl, le_of_lt, ne_of_lt, lt_of_le_of_ne, le_trans, lt_trans, lt_of_lt_of_le, lt_of_le_of_lt, order_laws, min_eq_left, min_eq_right, max_eq_left, max_eq_right, lt_min, le_min, min_ne, lt_max_left, lt_max_right, le_max_left, le_max_right, max_ne, min_max_laws}
use Rattle.alg_law.specs.OrderedRingLaws.{zero_lt_one, add_le_add, add_lt_add, add_lt_add_le, mul_pos, mul_nonneg, pow_pos, pow_nonneg, mul_lt_mul_right, mul_le_mul_right, ordered_semiring_laws, mul_self_nonneg, abs_of_nonneg, abs_of_nonpos, abs_nonneg, abs_pos, inv_pos, inv_nonneg, nat_nonneg, fact_pos, ordered_ring_laws}

pub add_assoc-named : row_named law_table (codes "add_assoc") ≡ Some add_assoc
unfolding law_table law_groups sum_laws
add_assoc-named = refl

pub zero_add-named : row_named law_table (codes "zero_add") ≡ Some zero_add
unfolding law_table law_groups sum_laws
zero_add-named = refl

pub add_zero-named : row_named law_table (codes "add_zero") ≡ Some add_zero
unfolding law_table law_groups sum_laws
add_zero-named = refl

pub add_comm-named : row_named law_table (codes "add_comm") ≡ Some add_comm
unfolding law_table law_groups sum_laws
add_comm-named = refl

pub neg_add_cancel-named : row_named law_table (codes "neg_add_cancel") ≡ Some neg_add_cancel
unfolding law_table law_groups sum_laws
neg_add_cancel-named = refl

pub sub_eq_add_neg-named : row_named law_table (codes "sub_eq_add_neg") ≡ Some sub_eq_add_neg
unfolding law_table law_groups sum_laws
sub_eq_add_neg-named = refl

pub zero_nsmul-named : row_named law_table (codes "zero_nsmul") ≡ Some zero_nsmul
unfolding law_table law_groups sum_laws multiple_laws
zero_nsmul-named = refl

pub succ_nsmul-named : row_named law_table (codes "succ_nsmul") ≡ Some succ_nsmul
unfolding law_table law_groups sum_laws multiple_laws
succ_nsmul-named = refl

pub add_nsmul-named : row_named law_table (codes "add_nsmul") ≡ Some add_nsmul
unfolding law_table law_groups sum_laws multiple_laws
add_nsmul-named = refl

pub mul_nsmul-named : row_named law_table (codes "mul_nsmul") ≡ Some mul_nsmul
unfolding law_table law_groups sum_laws multiple_laws
mul_nsmul-named = refl

pub nsmul_add-named : row_named law_table (codes "nsmul_add") ≡ Some nsmul_add
unfolding law_table law_groups sum_laws multiple_laws
nsmul_add-named = refl

pub neg_zsmul-named : row_named law_table (codes "neg_zsmul") ≡ Some neg_zsmul
unfolding law_table law_groups sum_laws multiple_laws
neg_zsmul-named = refl

pub add_zsmul-named : row_named law_table (codes "add_zsmul") ≡ Some add_zsmul
unfolding law_table law_groups sum_laws multiple_laws
add_zsmul-named = refl

pub mul_zsmul-named : row_named law_table (codes "mul_zsmul") ≡ Some mul_zsmul
unfolding law_table law_groups sum_laws multiple_laws
mul_zsmul-named = refl

pub zsmul_add-named : row_named law_table (codes "zsmul_add") ≡ Some zsmul_add
unfolding law_table law_groups sum_laws multiple_laws
zsmul_add-named = refl

pub mul_assoc-named : row_named law_table (codes "mul_assoc") ≡ Some mul_assoc
unfolding law_table law_groups sum_laws multiple_laws product_laws
mul_assoc-named = refl

pub mul_comm-named : row_named law_table (codes "mul_comm") ≡ Some mul_comm
unfolding law_table law_groups sum_laws multiple_laws product_laws
mul_comm-named = refl

pub one_mul-named : row_named law_table (codes "one_mul") ≡ Some one_mul
unfolding law_table law_groups sum_laws multiple_laws product_laws
one_mul-named = refl

pub mul_one-named : row_named law_table (codes "mul_one") ≡ Some mul_one
unfolding law_table law_groups sum_laws multiple_laws product_laws
mul_one-named = refl

pub inv_mul_cancel-named : row_named law_table (codes "inv_mul_cancel") ≡ Some inv_mul_cancel
unfolding law_table law_groups sum_laws multiple_laws product_laws
inv_mul_cancel-named = refl

pub div_eq_mul_inv-named : row_named law_table (codes "div_eq_mul_inv") ≡ Some div_eq_mul_inv
unfolding law_table law_groups sum_laws multiple_laws product_laws
div_eq_mul_inv-named = refl

pub div_eq_mul_inv0-named : row_named law_table (codes "div_eq_mul_inv0") ≡ Some div_eq_mul_inv0
unfolding law_table law_groups sum_laws multiple_laws product_laws
div_eq_mul_inv0-named = refl

pub pow_zero-named : row_named law_table (codes "pow_zero") ≡ Some pow_zero
unfolding law_table law_groups sum_laws multiple_laws product_laws power_laws
pow_zero-named = refl

pub pow_succ-named : row_named law_table (codes "pow_succ") ≡ Some pow_succ
unfolding law_table law_groups sum_laws multiple_laws product_laws power_laws
pow_succ-named = refl

pub pow_add-named : row_named law_table (codes "pow_add") ≡ Some pow_add
unfolding law_table law_groups sum_laws multiple_laws product_laws power_laws
pow_add-named = refl

pub pow_mul-named : row_named law_table (codes "pow_mul") ≡ Some pow_mul
unfolding law_table law_groups sum_laws multiple_laws product_laws power_laws
pow_mul-named = refl

pub one_pow-named : row_named law_table (codes "one_pow") ≡ Some one_pow
unfolding law_table law_groups sum_laws multiple_laws product_laws power_laws
one_pow-named = refl

pub mul_pow-named : row_named law_table (codes "mul_pow") ≡ Some mul_pow
unfolding law_table law_groups sum_laws multiple_laws product_laws power_laws
mul_pow-named = refl

pub zpow_neg-named : row_named law_table (codes "zpow_neg") ≡ Some zpow_neg
unfolding law_table law_groups sum_laws multiple_laws product_laws power_laws
zpow_neg-named = refl

pub zpow_neg0-named : row_named law_table (codes "zpow_neg0") ≡ Some zpow_neg0
unfolding law_table law_groups sum_laws multiple_laws product_laws power_laws
zpow_neg0-named = refl

pub zpow_add-named : row_named law_table (codes "zpow_add") ≡ Some zpow_add
unfolding law_table law_groups sum_laws multiple_laws product_laws power_laws
zpow_add-named = refl

pub zpow_mul-named : row_named law_table (codes "zpow_mul") ≡ Some zpow_mul
unfolding law_table law_groups sum_laws multiple_laws product_laws power_laws
zpow_mul-named = refl

pub left_distrib-named : row_named law_table (codes "left_distrib") ≡ Some left_distrib
unfolding law_table law_groups sum_laws multiple_laws product_laws power_laws semiring_laws
left_distrib-named = refl

pub right_distrib-named : row_named law_table (codes "right_distrib") ≡ Some right_distrib
unfolding law_table law_groups sum_laws multiple_laws product_laws power_laws semiring_laws
right_distrib-named = refl

pub zero_mul-named : row_named law_table (codes "zero_mul") ≡ Some zero_mul
unfolding law_table law_groups sum_laws multiple_laws product_laws power_laws semiring_laws
zero_mul-named = refl

pub mul_zero-named : row_named law_table (codes "mul_zero") ≡ Some mul_zero
unfolding law_table law_groups sum_laws multiple_laws product_laws power_laws semiring_laws
mul_zero-named = refl

pub mul_inv_cancel0-named : row_named law_table (codes "mul_inv_cancel0") ≡ Some mul_inv_cancel0
unfolding law_table law_groups sum_laws multiple_laws product_laws power_laws semiring_laws field_laws
mul_inv_cancel0-named = refl

pub inv_zero-named : row_named law_table (codes "inv_zero") ≡ Some inv_zero
unfolding law_table law_groups sum_laws multiple_laws product_laws power_laws semiring_laws field_laws
inv_zero-named = refl

pub one_ne_zero-named : row_named law_table (codes "one_ne_zero") ≡ Some one_ne_zero
unfolding law_table law_groups sum_laws multiple_laws product_laws power_laws semiring_laws field_laws
one_ne_zero-named = refl

pub inv_ne_zero-named : row_named law_table (codes "inv_ne_zero") ≡ Some inv_ne_zero
unfolding law_table law_groups sum_laws multiple_laws product_laws power_laws semiring_laws field_laws
inv_ne_zero-named = refl

pub mul_ne_zero-named : row_named law_table (codes "mul_ne_zero") ≡ Some mul_ne_zero
unfolding law_table law_groups sum_laws multiple_laws product_laws power_laws semiring_laws field_laws
mul_ne_zero-named = refl

pub pow_ne_zero-named : row_named law_table (codes "pow_ne_zero") ≡ Some pow_ne_zero
unfolding law_table law_groups sum_laws multiple_laws product_laws power_laws semiring_laws field_laws
pow_ne_zero-named = refl

pub mul_right_ne-named : row_named law_table (codes "mul_right_ne") ≡ Some mul_right_ne
unfolding law_table law_groups sum_laws multiple_laws product_laws power_laws semiring_laws field_laws
mul_right_ne-named = refl

pub mul_ne_zero_ord-named : row_named law_table (codes "mul_ne_zero_ord") ≡ Some mul_ne_zero_ord
unfolding law_table law_groups sum_laws multiple_laws product_laws power_laws semiring_laws field_laws unequal_laws
mul_ne_zero_ord-named = refl

pub pow_ne_zero_ord-named : row_named law_table (codes "pow_ne_zero_ord") ≡ Some pow_ne_zero_ord
unfolding law_table law_groups sum_laws multiple_laws product_laws power_laws semiring_laws field_laws unequal_laws
pow_ne_zero_ord-named = refl

pub ne_symm-named : row_named law_table (codes "ne_symm") ≡ Some ne_symm
unfolding law_table law_groups sum_laws multiple_laws product_laws power_laws semiring_laws field_laws unequal_laws
ne_symm-named = refl

pub neg_ne_zero-named : row_named law_table (codes "neg_ne_zero") ≡ Some neg_ne_zero
unfolding law_table law_groups sum_laws multiple_laws product_laws power_laws semiring_laws field_laws unequal_laws
neg_ne_zero-named = refl

pub add_right_ne-named : row_named law_table (codes "add_right_ne") ≡ Some add_right_ne
unfolding law_table law_groups sum_laws multiple_laws product_laws power_laws semiring_laws field_laws unequal_laws
add_right_ne-named = refl

pub le_refl-named : row_named law_table (codes "le_refl") ≡ Some le_refl
unfolding law_table law_groups sum_laws multiple_laws product_laws power_laws semiring_laws field_laws unequal_laws order_laws
le_refl-named = refl

pub le_of_lt-named : row_named law_table (codes "le_of_lt") ≡ Some le_of_lt
unfolding law_table law_groups sum_laws multiple_laws product_laws power_laws semiring_laws field_laws unequal_laws order_laws
le_of_lt-named = refl

pub ne_of_lt-named : row_named law_table (codes "ne_of_lt") ≡ Some ne_of_lt
unfolding law_table law_groups sum_laws multiple_laws product_laws power_laws semiring_laws field_laws unequal_laws order_laws
ne_of_lt-named = refl

pub lt_of_le_of_ne-named : row_named law_table (codes "lt_of_le_of_ne") ≡ Some lt_of_le_of_ne
unfolding law_table law_groups sum_laws multiple_laws product_laws power_laws semiring_laws field_laws unequal_laws order_laws
lt_of_le_of_ne-named = refl

pub le_trans-named : row_named law_table (codes "le_trans") ≡ Some le_trans
unfolding law_table law_groups sum_laws multiple_laws product_laws power_laws semiring_laws field_laws unequal_laws order_laws
le_trans-named = refl

pub lt_trans-named : row_named law_table (codes "lt_trans") ≡ Some lt_trans
unfolding law_table law_groups sum_laws multiple_laws product_laws power_laws semiring_laws field_laws unequal_laws order_laws
lt_trans-named = refl

pub lt_of_lt_of_le-named : row_named law_table (codes "lt_of_lt_of_le") ≡ Some lt_of_lt_of_le
unfolding law_table law_groups sum_laws multiple_laws product_laws power_laws semiring_laws field_laws unequal_laws order_laws
lt_of_lt_of_le-named = refl

pub lt_of_le_of_lt-named : row_named law_table (codes "lt_of_le_of_lt") ≡ Some lt_of_le_of_lt
unfolding law_table law_groups sum_laws multiple_laws product_laws power_laws semiring_laws field_laws unequal_laws order_laws
lt_of_le_of_lt-named = refl

pub min_eq_left-named : row_named law_table (codes "min_eq_left") ≡ Some min_eq_left
unfolding law_table law_groups sum_laws multiple_laws product_laws power_laws semiring_laws field_laws unequal_laws order_laws min_max_laws
min_eq_left-named = refl

pub min_eq_right-named : row_named law_table (codes "min_eq_right") ≡ Some min_eq_right
unfolding law_table law_groups sum_laws multiple_laws product_laws power_laws semiring_laws field_laws unequal_laws order_laws min_max_laws
min_eq_right-named = refl

pub max_eq_left-named : row_named law_table (codes "max_eq_left") ≡ Some max_eq_left
unfolding law_table law_groups sum_laws multiple_laws product_laws power_laws semiring_laws field_laws unequal_laws order_laws min_max_laws
max_eq_left-named = refl

pub max_eq_right-named : row_named law_table (codes "max_eq_right") ≡ Some max_eq_right
unfolding law_table law_groups sum_laws multiple_laws product_laws power_laws semiring_laws field_laws unequal_laws order_laws min_max_laws
max_eq_right-named = refl

pub lt_min-named : row_named law_table (codes "lt_min") ≡ Some lt_min
unfolding law_table law_groups sum_laws multiple_laws product_laws power_laws semiring_laws field_laws unequal_laws order_laws min_max_laws
lt_min-named = refl

pub le_min-named : row_named law_table (codes "le_min") ≡ Some le_min
unfolding law_table law_groups sum_laws multiple_laws product_laws power_laws semiring_laws field_laws unequal_laws order_laws min_max_laws
le_min-named = refl

pub min_ne-named : row_named law_table (codes "min_ne") ≡ Some min_ne
unfolding law_table law_groups sum_laws multiple_laws product_laws power_laws semiring_laws field_laws unequal_laws order_laws min_max_laws
min_ne-named = refl

pub lt_max_left-named : row_named law_table (codes "lt_max_left") ≡ Some lt_max_left
unfolding law_table law_groups sum_laws multiple_laws product_laws power_laws semiring_laws field_laws unequal_laws order_laws min_max_laws
lt_max_left-named = refl

pub lt_max_right-named : row_named law_table (codes "lt_max_right") ≡ Some lt_max_right
unfolding law_table law_groups sum_laws multiple_laws product_laws power_laws semiring_laws field_laws unequal_laws order_laws min_max_laws
lt_max_right-named = refl

pub le_max_left-named : row_named law_table (codes "le_max_left") ≡ Some le_max_left
unfolding law_table law_groups sum_laws multiple_laws product_laws power_laws semiring_laws field_laws unequal_laws order_laws min_max_laws
le_max_left-named = refl

pub le_max_right-named : row_named law_table (codes "le_max_right") ≡ Some le_max_right
unfolding law_table law_groups sum_laws multiple_laws product_laws power_laws semiring_laws field_laws unequal_laws order_laws min_max_laws
le_max_right-named = refl

pub max_ne-named : row_named law_table (codes "max_ne") ≡ Some max_ne
unfolding law_table law_groups sum_laws multiple_laws product_laws power_laws semiring_laws field_laws unequal_laws order_laws min_max_laws
max_ne-named = refl

pub zero_lt_one-named : row_named law_table (codes "zero_lt_one") ≡ Some zero_lt_one
unfolding law_table law_groups sum_laws multiple_laws product_laws power_laws semiring_laws field_laws unequal_laws order_laws min_max_laws ordered_semiring_laws
zero_lt_one-named = refl

pub add_le_add-named : row_named law_table (codes "add_le_add") ≡ Some add_le_add
unfolding law_table law_groups sum_laws multiple_laws product_laws power_laws semiring_laws field_laws unequal_laws order_laws min_max_laws ordered_semiring_laws
add_le_add-named = refl

pub add_lt_add-named : row_named law_table (codes "add_lt_add") ≡ Some add_lt_add
unfolding law_table law_groups sum_laws multiple_laws product_laws power_laws semiring_laws field_laws unequal_laws order_laws min_max_laws ordered_semiring_laws
add_lt_add-named = refl

pub add_lt_add_le-named : row_named law_table (codes "add_lt_add_le") ≡ Some add_lt_add_le
unfolding law_table law_groups sum_laws multiple_laws product_laws power_laws semiring_laws field_laws unequal_laws order_laws min_max_laws ordered_semiring_laws
add_lt_add_le-named = refl

pub mul_pos-named : row_named law_table (codes "mul_pos") ≡ Some mul_pos
unfolding law_table law_groups sum_laws multiple_laws product_laws power_laws semiring_laws field_laws unequal_laws order_laws min_max_laws ordered_semiring_laws
mul_pos-named = refl

pub mul_nonneg-named : row_named law_table (codes "mul_nonneg") ≡ Some mul_nonneg
unfolding law_table law_groups sum_laws multiple_laws product_laws power_laws semiring_laws field_laws unequal_laws order_laws min_max_laws ordered_semiring_laws
mul_nonneg-named = refl

pub pow_pos-named : row_named law_table (codes "pow_pos") ≡ Some pow_pos
unfolding law_table law_groups sum_laws multiple_laws product_laws power_laws semiring_laws field_laws unequal_laws order_laws min_max_laws ordered_semiring_laws
pow_pos-named = refl

pub pow_nonneg-named : row_named law_table (codes "pow_nonneg") ≡ Some pow_nonneg
unfolding law_table law_groups sum_laws multiple_laws product_laws power_laws semiring_laws field_laws unequal_laws order_laws min_max_laws ordered_semiring_laws
pow_nonneg-named = refl

pub mul_lt_mul_right-named : row_named law_table (codes "mul_lt_mul_right") ≡ Some mul_lt_mul_right
unfolding law_table law_groups sum_laws multiple_laws product_laws power_laws semiring_laws field_laws unequal_laws order_laws min_max_laws ordered_semiring_laws
mul_lt_mul_right-named = refl

pub mul_le_mul_right-named : row_named law_table (codes "mul_le_mul_right") ≡ Some mul_le_mul_right
unfolding law_table law_groups sum_laws multiple_laws product_laws power_laws semiring_laws field_laws unequal_laws order_laws min_max_laws ordered_semiring_laws
mul_le_mul_right-named = refl

pub mul_self_nonneg-named : row_named law_table (codes "mul_self_nonneg") ≡ Some mul_self_nonneg
unfolding law_table law_groups sum_laws multiple_laws product_laws power_laws semiring_laws field_laws unequal_laws order_laws min_max_laws ordered_semiring_laws ordered_ring_laws
mul_self_nonneg-named = refl

pub abs_of_nonneg-named : row_named law_table (codes "abs_of_nonneg") ≡ Some abs_of_nonneg
unfolding law_table law_groups sum_laws multiple_laws product_laws power_laws semiring_laws field_laws unequal_laws order_laws min_max_laws ordered_semiring_laws ordered_ring_laws
abs_of_nonneg-named = refl

pub abs_of_nonpos-named : row_named law_table (codes "abs_of_nonpos") ≡ Some abs_of_nonpos
unfolding law_table law_groups sum_laws multiple_laws product_laws power_laws semiring_laws field_laws unequal_laws order_laws min_max_laws ordered_semiring_laws ordered_ring_laws
abs_of_nonpos-named = refl

pub abs_nonneg-named : row_named law_table (codes "abs_nonneg") ≡ Some abs_nonneg
unfolding law_table law_groups sum_laws multiple_laws product_laws power_laws semiring_laws field_laws unequal_laws order_laws min_max_laws ordered_semiring_laws ordered_ring_laws
abs_nonneg-named = refl

pub abs_pos-named : row_named law_table (codes "abs_pos") ≡ Some abs_pos
unfolding law_table law_groups sum_laws multiple_laws product_laws power_laws semiring_laws field_laws unequal_laws order_laws min_max_laws ordered_semiring_laws ordered_ring_laws
abs_pos-named = refl

pub inv_pos-named : row_named law_table (codes "inv_pos") ≡ Some inv_pos
unfolding law_table law_groups sum_laws multiple_laws product_laws power_laws semiring_laws field_laws unequal_laws order_laws min_max_laws ordered_semiring_laws ordered_ring_laws
inv_pos-named = refl

pub inv_nonneg-named : row_named law_table (codes "inv_nonneg") ≡ Some inv_nonneg
unfolding law_table law_groups sum_laws multiple_laws product_laws power_laws semiring_laws field_laws unequal_laws order_laws min_max_laws ordered_semiring_laws ordered_ring_laws
inv_nonneg-named = refl

pub nat_nonneg-named : row_named law_table (codes "nat_nonneg") ≡ Some nat_nonneg
unfolding law_table law_groups sum_laws multiple_laws product_laws power_laws semiring_laws field_laws unequal_laws order_laws min_max_laws ordered_semiring_laws ordered_ring_laws
nat_nonneg-named = refl

pub fact_pos-named : row_named law_table (codes "fact_pos") ≡ Some fact_pos
unfolding law_table law_groups sum_laws multiple_laws product_laws power_laws semiring_laws field_laws unequal_laws order_laws min_max_laws ordered_semiring_laws ordered_ring_laws
fact_pos-named = refl

-- all of them
pub ruleset named_laws = (add_assoc-named, zero_add-named, add_zero-named, add_comm-named, neg_add_cancel-named, sub_eq_add_neg-named, zero_nsmul-named, succ_nsmul-named, add_nsmul-named, mul_nsmul-named, nsmul_add-named, neg_zsmul-named, add_zsmul-named, mul_zsmul-named, zsmul_add-named, mul_assoc-named, mul_comm-named, one_mul-named, mul_one-named, inv_mul_cancel-named, div_eq_mul_inv-named, div_eq_mul_inv0-named, pow_zero-named, pow_succ-named, pow_add-named, pow_mul-named, one_pow-named, mul_pow-named, zpow_neg-named, zpow_neg0-named, zpow_add-named, zpow_mul-named, left_distrib-named, right_distrib-named, zero_mul-named, mul_zero-named, mul_inv_cancel0-named, inv_zero-named, one_ne_zero-named, inv_ne_zero-named, mul_ne_zero-named, pow_ne_zero-named, mul_right_ne-named, mul_ne_zero_ord-named, pow_ne_zero_ord-named, ne_symm-named, neg_ne_zero-named, add_right_ne-named, le_refl-named, le_of_lt-named, ne_of_lt-named, lt_of_le_of_ne-named, le_trans-named, lt_trans-named, lt_of_lt_of_le-named, lt_of_le_of_lt-named, min_eq_left-named, min_eq_right-named, max_eq_left-named, max_eq_right-named, lt_min-named, le_min-named, min_ne-named, lt_max_left-named, lt_max_right-named, le_max_left-named, le_max_right-named, max_ne-named, zero_lt_one-named, add_le_add-named, add_lt_add-named, add_lt_add_le-named, mul_pos-named, mul_nonneg-named, pow_pos-named, pow_nonneg-named, mul_lt_mul_right-named, mul_le_mul_right-named, mul_self_nonneg-named, abs_of_nonneg-named, abs_of_nonpos-named, abs_nonneg-named, abs_pos-named, inv_pos-named, inv_nonneg-named, nat_nonneg-named, fact_pos-named)
