-- Laws of semirings and of what is unequal hold at the integers, and those of fields speak of no sort that is read there.
use Rattle.std.specs.Prelude.{All, true, ◌≢◌, ℤ, pos, ◌+ℤ◌, neg_ℤ}
use Rattle.std.proofs.Common.{sym, arith}
use Rattle.std.proofs.Math.IntN.{zero-*ℤ, *ℤ-zero}
use Rattle.std.proofs.lemmas.Int.{ints}
use Rattle.alg_law.proofs.IntegerLaws.{*ℤ-+ℤ, +ℤ-*ℤ}
use Rattle.alg_law.proofs.IntegerOrder.{product_nonzero, power_nonzero}
use Rattle.alg_law.specs.IntegerValues.{natural}
use Rattle.std.proofs.lemmas.List.Elements.{All-from_recursion}
use Rattle.alg_law.specs.RingLaws.{semiring_laws, field_laws, unequal_laws, left_distrib, right_distrib, zero_mul, mul_zero, mul_inv_cancel0, inv_zero, one_ne_zero, inv_ne_zero, mul_ne_zero, pow_ne_zero, mul_right_ne, mul_ne_zero_ord, pow_ne_zero_ord, ne_symm, neg_ne_zero, add_right_ne}
use Rattle.alg_law.specs.TrueRows.{IsTrueRow}
use Rattle.alg_law.proofs.TrueRowLaws.{letter, not_of_field}

negation_nonzero : (a : ℤ) → a ≢ pos 0 → neg_ℤ a ≢ pos 0
negation_nonzero a h e = h (omega (arith, ints, e))

sums_unequal : (a b c : ℤ) → a ≢ b → a +ℤ c ≢ b +ℤ c
sums_unequal a b c h e = h (omega (arith, ints, e))

left_distrib-true : IsTrueRow left_distrib
left_distrib-true ds v s with base val fill beside hold = *ℤ-+ℤ (letter v with 0) (letter v with 1) (letter v with 2)

right_distrib-true : IsTrueRow right_distrib
right_distrib-true ds v s with base val fill beside hold = +ℤ-*ℤ (letter v with 0) (letter v with 1) (letter v with 2)

zero_mul-true : IsTrueRow zero_mul
zero_mul-true ds v s with base val fill beside hold = zero-*ℤ (letter v with 0)

mul_zero-true : IsTrueRow mul_zero
mul_zero-true ds v s with base val fill beside hold = *ℤ-zero (letter v with 0)

pub semiring_laws-true : All IsTrueRow semiring_laws
unfolding semiring_laws
semiring_laws-true = All-from_recursion IsTrueRow semiring_laws (left_distrib-true, (right_distrib-true, (zero_mul-true, (mul_zero-true, tt))))

mul_inv_cancel0-true : IsTrueRow mul_inv_cancel0
mul_inv_cancel0-true ds v s with base val fill beside hold = not_of_field ds s true base beside fill.needs

inv_zero-true : IsTrueRow inv_zero
inv_zero-true ds v s with base val fill beside hold = not_of_field ds s true base beside fill.needs

one_ne_zero-true : IsTrueRow one_ne_zero
one_ne_zero-true ds v s with base val fill beside hold = not_of_field ds s true base beside fill.needs

inv_ne_zero-true : IsTrueRow inv_ne_zero
inv_ne_zero-true ds v s with base val fill beside hold = not_of_field ds s true base beside fill.needs

mul_ne_zero-true : IsTrueRow mul_ne_zero
mul_ne_zero-true ds v s with base val fill beside hold = not_of_field ds s true base beside fill.needs

pow_ne_zero-true : IsTrueRow pow_ne_zero
pow_ne_zero-true ds v s with base val fill beside hold = not_of_field ds s true base beside fill.needs

mul_right_ne-true : IsTrueRow mul_right_ne
mul_right_ne-true ds v s with base val fill beside hold = not_of_field ds s true base beside fill.needs

pub field_laws-true : All IsTrueRow field_laws
unfolding field_laws
field_laws-true = All-from_recursion IsTrueRow field_laws (mul_inv_cancel0-true, (inv_zero-true, (one_ne_zero-true, (inv_ne_zero-true, (mul_ne_zero-true, (pow_ne_zero-true, (mul_right_ne-true, tt)))))))

mul_ne_zero_ord-true : IsTrueRow mul_ne_zero_ord
mul_ne_zero_ord-true ds v s with base val fill beside hold = product_nonzero (letter v with 0) (letter v with 1) hold.0 hold.1.0

pow_ne_zero_ord-true : IsTrueRow pow_ne_zero_ord
pow_ne_zero_ord-true ds v s with base val fill beside hold = power_nonzero (letter v with 0) (natural (letter v with 1)) hold.0

ne_symm-true : IsTrueRow ne_symm
ne_symm-true ds v s with base val fill beside hold = λ e. hold.0 (sym e)

neg_ne_zero-true : IsTrueRow neg_ne_zero
neg_ne_zero-true ds v s with base val fill beside hold = negation_nonzero (letter v with 0) hold.0

add_right_ne-true : IsTrueRow add_right_ne
add_right_ne-true ds v s with base val fill beside hold = sums_unequal (letter v with 0) (letter v with 1) (letter v with 2) hold.0

pub unequal_laws-true : All IsTrueRow unequal_laws
unfolding unequal_laws
unequal_laws-true = All-from_recursion IsTrueRow unequal_laws (mul_ne_zero_ord-true, (pow_ne_zero_ord-true, (ne_symm-true, (neg_ne_zero-true, (add_right_ne-true, tt)))))
