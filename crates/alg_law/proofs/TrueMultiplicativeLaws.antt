-- Laws of products and powers hold at the integers, and those of inverses speak of no sort that is read there.
use Rattle.std.specs.Prelude.{All, true, refl, ◌≡◌, ◌+◌, suc, ℤ, pos, negsuc, ◌+ℤ◌, ◌*ℤ◌, ◌≤ℤ◌}
use Rattle.std.specs.Int.{int_pow}
use Rattle.std.proofs.Common.{ap, ◌∙◌, arith}
use Rattle.std.proofs.Math.IntN.{*ℤ_comm}
use Rattle.std.proofs.lemmas.Int.{ints}
use Rattle.alg_law.proofs.IntegerLaws.{*ℤ_assoc, *ℤ-pos_one, pos_one-*ℤ}
use Rattle.alg_law.proofs.IntegerPowers.{int_pow-zero, int_pow-suc, int_pow-add, int_pow-mul, int_pow-one, int_pow-*ℤ}
use Rattle.alg_law.proofs.IntegerOrder.{natural-+ℤ, natural-*ℤ}
use Rattle.alg_law.specs.IntegerValues.{natural}
use Rattle.std.proofs.lemmas.List.Elements.{All-from_recursion}
use Rattle.alg_law.specs.MultiplicativeLaws.{product_laws, power_laws, mul_assoc, mul_comm, one_mul, mul_one, inv_mul_cancel, div_eq_mul_inv, div_eq_mul_inv0, pow_zero, pow_succ, pow_add, pow_mul, one_pow, mul_pow, zpow_neg, zpow_neg0, zpow_add, zpow_mul}
use Rattle.alg_law.specs.TrueRows.{IsTrueRow}
use Rattle.alg_law.proofs.TrueRowLaws.{letter, natural_at, not_of_group, not_of_field}

one_more : (a n : ℤ) → pos 0 ≤ℤ n → int_pow a (natural (n +ℤ pos 1)) ≡ int_pow a (natural n) *ℤ a
one_more a (pos n) h = let e : n + 1 ≡ suc n = omega arith in ap (int_pow a) e ∙ int_pow-suc a n
one_more a (negsuc n) h = absurd (omega (arith, ints, h))

power_sum : (a m n : ℤ) → pos 0 ≤ℤ m → pos 0 ≤ℤ n → int_pow a (natural (m +ℤ n)) ≡ int_pow a (natural m) *ℤ int_pow a (natural n)
power_sum a m n h k = ap (int_pow a) (natural-+ℤ m n h k) ∙ int_pow-add a (natural m) (natural n)

power_product : (a m n : ℤ) → pos 0 ≤ℤ m → pos 0 ≤ℤ n → int_pow a (natural (m *ℤ n)) ≡ int_pow (int_pow a (natural m)) (natural n)
power_product a m n h k = ap (int_pow a) (natural-*ℤ m n h k) ∙ int_pow-mul a (natural m) (natural n)

mul_assoc-true : IsTrueRow mul_assoc
mul_assoc-true ds v s with base val fill beside hold = *ℤ_assoc (letter v with 0) (letter v with 1) (letter v with 2)

mul_comm-true : IsTrueRow mul_comm
mul_comm-true ds v s with base val fill beside hold = *ℤ_comm (letter v with 0) (letter v with 1)

one_mul-true : IsTrueRow one_mul
one_mul-true ds v s with base val fill beside hold = pos_one-*ℤ (letter v with 0)

mul_one-true : IsTrueRow mul_one
mul_one-true ds v s with base val fill beside hold = *ℤ-pos_one (letter v with 0)

inv_mul_cancel-true : IsTrueRow inv_mul_cancel
inv_mul_cancel-true ds v s with base val fill beside hold = not_of_group ds s true base beside fill.needs

div_eq_mul_inv-true : IsTrueRow div_eq_mul_inv
div_eq_mul_inv-true ds v s with base val fill beside hold = not_of_group ds s true base beside fill.needs

div_eq_mul_inv0-true : IsTrueRow div_eq_mul_inv0
div_eq_mul_inv0-true ds v s with base val fill beside hold = not_of_field ds s true base beside fill.needs

pub product_laws-true : All IsTrueRow product_laws
unfolding product_laws
product_laws-true = All-from_recursion IsTrueRow product_laws (mul_assoc-true, (mul_comm-true, (one_mul-true, (mul_one-true, (inv_mul_cancel-true, (div_eq_mul_inv-true, (div_eq_mul_inv0-true, tt)))))))

pow_zero-true : IsTrueRow pow_zero
pow_zero-true ds v s with base val fill beside hold = int_pow-zero (letter v with 0)

pow_succ-true : IsTrueRow pow_succ
pow_succ-true ds v s with base val fill beside hold = one_more (letter v with 0) (letter v with 1) (natural_at ds v pow_succ s with 1 val fill refl)

pow_add-true : IsTrueRow pow_add
pow_add-true ds v s with base val fill beside hold = power_sum (letter v with 0) (letter v with 1) (letter v with 2) (natural_at ds v pow_add s with 1 val fill refl) (natural_at ds v pow_add s with 2 val fill refl)

pow_mul-true : IsTrueRow pow_mul
pow_mul-true ds v s with base val fill beside hold = power_product (letter v with 0) (letter v with 1) (letter v with 2) (natural_at ds v pow_mul s with 1 val fill refl) (natural_at ds v pow_mul s with 2 val fill refl)

one_pow-true : IsTrueRow one_pow
one_pow-true ds v s with base val fill beside hold = int_pow-one (natural (letter v with 0))

mul_pow-true : IsTrueRow mul_pow
mul_pow-true ds v s with base val fill beside hold = int_pow-*ℤ (letter v with 0) (letter v with 1) (natural (letter v with 2))

zpow_neg-true : IsTrueRow zpow_neg
zpow_neg-true ds v s with base val fill beside hold = not_of_group ds s true base beside fill.needs

zpow_neg0-true : IsTrueRow zpow_neg0
zpow_neg0-true ds v s with base val fill beside hold = not_of_field ds s true base beside fill.needs

zpow_add-true : IsTrueRow zpow_add
zpow_add-true ds v s with base val fill beside hold = not_of_group ds s true base beside fill.needs

zpow_mul-true : IsTrueRow zpow_mul
zpow_mul-true ds v s with base val fill beside hold = not_of_group ds s true base beside fill.needs

pub power_laws-true : All IsTrueRow power_laws
unfolding power_laws
power_laws-true = All-from_recursion IsTrueRow power_laws (pow_zero-true, (pow_succ-true, (pow_add-true, (pow_mul-true, (one_pow-true, (mul_pow-true, (zpow_neg-true, (zpow_neg0-true, (zpow_add-true, (zpow_mul-true, tt))))))))))
