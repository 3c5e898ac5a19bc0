-- Laws of ordered rings and of ℕ hold at the integers, and those of ordered fields speak of no sort that is read there.
use Rattle.std.specs.Prelude.{All, ℕ, zero, suc, ◌<◌, true, ◌&&◌, ℤ, pos, ◌+ℤ◌, ◌<ℤ◌, ◌≤ℤ◌, unsigned_abs}
use Rattle.std.proofs.Common.{arith, mul-pos}
use Rattle.std.proofs.lemmas.Bool.{and_parts}
use Rattle.std.proofs.lemmas.Int.{ints}
use Rattle.alg_terms.specs.declared.sorts.Sort.TheVariants.{Nat}
use Rattle.alg_terms.specs.Order.{sort_same}
use Rattle.alg_terms.proofs.OrderLaws.{sort_same-equal}
use Rattle.alg_law.specs.declared.classes.Class.TheVariants.{IsStrictOrderedRing}
use Rattle.alg_law.specs.Having.{has_class}
use Rattle.alg_law.specs.LeanFunctions.{factorial}
use Rattle.alg_law.proofs.IntegerOrder.{product_above, product_not_below, square_not_below, power_above, power_not_below, less_times, at_most_times, abs-same, abs-opposite, abs_above, natural_not_below, one_above}
use Rattle.alg_law.specs.IntegerValues.{natural}
use Rattle.std.proofs.lemmas.List.Elements.{All-from_recursion}
use Rattle.alg_law.specs.OrderedRingLaws.{ordered_semiring_laws, ordered_ring_laws, zero_lt_one, add_le_add, add_lt_add, add_lt_add_le, mul_pos, mul_nonneg, pow_pos, pow_nonneg, mul_lt_mul_right, mul_le_mul_right, mul_self_nonneg, abs_of_nonneg, abs_of_nonpos, abs_nonneg, abs_pos, inv_pos, inv_nonneg, nat_nonneg, fact_pos}
use Rattle.alg_law.specs.TrueRows.{IsTrueRow}
use Rattle.alg_law.proofs.TrueRowLaws.{letter, natural_at, not_of_field}

at_most_sums : (a b c d : ℤ) → a ≤ℤ b → c ≤ℤ d → (a +ℤ c) ≤ℤ (b +ℤ d)
at_most_sums a b c d h k = omega (arith, ints)

less_sums : (a b c d : ℤ) → a <ℤ b → c <ℤ d → (a +ℤ c) <ℤ (b +ℤ d)
less_sums a b c d h k = omega (arith, ints)

mixed_sums : (a b c d : ℤ) → a <ℤ b → c ≤ℤ d → (a +ℤ c) <ℤ (b +ℤ d)
mixed_sums a b c d h k = omega (arith, ints)

factorial_above : (n : ℕ) → 0 < factorial n
unfolding factorial
factorial_above zero = omega arith
factorial_above (suc n) = mul-pos (omega arith) (factorial_above n)

above_where_positive : (n : ℕ) → 0 < n → pos 0 <ℤ pos n
above_where_positive n h = omega (arith, ints)

zero_lt_one-true : IsTrueRow zero_lt_one
zero_lt_one-true ds v s with base val fill beside hold = one_above

add_le_add-true : IsTrueRow add_le_add
add_le_add-true ds v s with base val fill beside hold = at_most_sums (letter v with 0) (letter v with 1) (letter v with 2) (letter v with 3) hold.0 hold.1.0

add_lt_add-true : IsTrueRow add_lt_add
add_lt_add-true ds v s with base val fill beside hold = less_sums (letter v with 0) (letter v with 1) (letter v with 2) (letter v with 3) hold.0 hold.1.0

add_lt_add_le-true : IsTrueRow add_lt_add_le
add_lt_add_le-true ds v s with base val fill beside hold = mixed_sums (letter v with 0) (letter v with 1) (letter v with 2) (letter v with 3) hold.0 hold.1.0

mul_pos-true : IsTrueRow mul_pos
mul_pos-true ds v s with base val fill beside hold = product_above (letter v with 0) (letter v with 1) hold.0 hold.1.0

mul_nonneg-true : IsTrueRow mul_nonneg
mul_nonneg-true ds v s with base val fill beside hold = product_not_below (letter v with 0) (letter v with 1) hold.0 hold.1.0

pow_pos-true : IsTrueRow pow_pos
pow_pos-true ds v s with base val fill beside hold = power_above (letter v with 0) (natural (letter v with 1)) hold.0

pow_nonneg-true : IsTrueRow pow_nonneg
pow_nonneg-true ds v s with base val fill beside hold = power_not_below (letter v with 0) (natural (letter v with 1)) hold.0

mul_lt_mul_right-true : IsTrueRow mul_lt_mul_right
mul_lt_mul_right-true ds v s with base val fill beside hold = less_times (letter v with 0) (letter v with 1) (letter v with 2) hold.0 hold.1.0

mul_le_mul_right-true : IsTrueRow mul_le_mul_right
mul_le_mul_right-true ds v s with base val fill beside hold = at_most_times (letter v with 0) (letter v with 1) (letter v with 2) hold.0 hold.1.0

pub ordered_semiring_laws-true : All IsTrueRow ordered_semiring_laws
unfolding ordered_semiring_laws
ordered_semiring_laws-true = All-from_recursion IsTrueRow ordered_semiring_laws (zero_lt_one-true, (add_le_add-true, (add_lt_add-true, (add_lt_add_le-true, (mul_pos-true, (mul_nonneg-true, (pow_pos-true, (pow_nonneg-true, (mul_lt_mul_right-true, (mul_le_mul_right-true, tt))))))))))

mul_self_nonneg-true : IsTrueRow mul_self_nonneg
mul_self_nonneg-true ds v s with base val fill beside hold = square_not_below (letter v with 0)

abs_of_nonneg-true : IsTrueRow abs_of_nonneg
abs_of_nonneg-true ds v s with base val fill beside hold = abs-same (letter v with 0) hold.0

abs_of_nonpos-true : IsTrueRow abs_of_nonpos
abs_of_nonpos-true ds v s with base val fill beside hold = abs-opposite (letter v with 0) hold.0

abs_nonneg-true : IsTrueRow abs_nonneg
abs_nonneg-true ds v s with base val fill beside hold = natural_not_below (unsigned_abs (letter v with 0))

abs_pos-true : IsTrueRow abs_pos
abs_pos-true ds v s with base val fill beside hold = abs_above (letter v with 0) hold.0

inv_pos-true : IsTrueRow inv_pos
inv_pos-true ds v s with base val fill beside hold = not_of_field ds s (has_class ds s IsStrictOrderedRing && true) base beside fill.needs

inv_nonneg-true : IsTrueRow inv_nonneg
inv_nonneg-true ds v s with base val fill beside hold = not_of_field ds s (has_class ds s IsStrictOrderedRing && true) base beside fill.needs

nat_nonneg-true : IsTrueRow nat_nonneg
nat_nonneg-true ds v s with base val fill beside hold = natural_at ds v nat_nonneg s with 0 val fill (sort_same-equal s Nat (and_parts (sort_same s Nat) true fill.needs).0)

fact_pos-true : IsTrueRow fact_pos
fact_pos-true ds v s with base val fill beside hold = above_where_positive (factorial (natural (letter v with 0))) (factorial_above (natural (letter v with 0)))

pub ordered_ring_laws-true : All IsTrueRow ordered_ring_laws
unfolding ordered_ring_laws
ordered_ring_laws-true = All-from_recursion IsTrueRow ordered_ring_laws (mul_self_nonneg-true, (abs_of_nonneg-true, (abs_of_nonpos-true, (abs_nonneg-true, (abs_pos-true, (inv_pos-true, (inv_nonneg-true, (nat_nonneg-true, (fact_pos-true, tt)))))))))
