-- Laws of sums and multiples hold at the integers.
use Rattle.std.specs.Prelude.{All, refl, ◌≡◌, ℤ, pos, ◌+ℤ◌, ◌*ℤ◌}
use Rattle.std.proofs.Common.{ap, ◌∙◌}
use Rattle.std.proofs.Math.IntN.{+ℤ_assoc, +ℤ_idl, +ℤ_idr, +ℤ_comm, +ℤ_invl, zero-*ℤ}
use Rattle.alg_law.proofs.IntegerLaws.{*ℤ_assoc, *ℤ-+ℤ, +ℤ-*ℤ, neg_ℤ-*ℤ, pos_one-*ℤ}
use Rattle.std.proofs.lemmas.List.Elements.{All-from_recursion}
use Rattle.alg_law.specs.AdditiveLaws.{sum_laws, multiple_laws, add_assoc, zero_add, add_zero, add_comm, neg_add_cancel, sub_eq_add_neg, zero_nsmul, succ_nsmul, add_nsmul, mul_nsmul, nsmul_add, neg_zsmul, add_zsmul, mul_zsmul, zsmul_add}
use Rattle.alg_law.specs.TrueRows.{IsTrueRow}
use Rattle.alg_law.proofs.TrueRowLaws.{letter}

one_more : (n a : ℤ) → (n +ℤ pos 1) *ℤ a ≡ n *ℤ a +ℤ a
one_more n a = +ℤ-*ℤ n (pos 1) a ∙ ap (λ z. n *ℤ a +ℤ z) (pos_one-*ℤ a)

add_assoc-true : IsTrueRow add_assoc
add_assoc-true ds v s with base val fill beside hold = +ℤ_assoc (letter v with 0) (letter v with 1) (letter v with 2)

zero_add-true : IsTrueRow zero_add
zero_add-true ds v s with base val fill beside hold = +ℤ_idl (letter v with 0)

add_zero-true : IsTrueRow add_zero
add_zero-true ds v s with base val fill beside hold = +ℤ_idr (letter v with 0)

add_comm-true : IsTrueRow add_comm
add_comm-true ds v s with base val fill beside hold = +ℤ_comm (letter v with 0) (letter v with 1)

neg_add_cancel-true : IsTrueRow neg_add_cancel
neg_add_cancel-true ds v s with base val fill beside hold = +ℤ_invl (letter v with 0)

sub_eq_add_neg-true : IsTrueRow sub_eq_add_neg
sub_eq_add_neg-true ds v s with base val fill beside hold = refl

pub sum_laws-true : All IsTrueRow sum_laws
unfolding sum_laws
sum_laws-true = All-from_recursion IsTrueRow sum_laws (add_assoc-true, (zero_add-true, (add_zero-true, (add_comm-true, (neg_add_cancel-true, (sub_eq_add_neg-true, tt))))))

zero_nsmul-true : IsTrueRow zero_nsmul
zero_nsmul-true ds v s with base val fill beside hold = zero-*ℤ (letter v with 0)

succ_nsmul-true : IsTrueRow succ_nsmul
succ_nsmul-true ds v s with base val fill beside hold = one_more (letter v with 1) (letter v with 0)

add_nsmul-true : IsTrueRow add_nsmul
add_nsmul-true ds v s with base val fill beside hold = +ℤ-*ℤ (letter v with 1) (letter v with 2) (letter v with 0)

mul_nsmul-true : IsTrueRow mul_nsmul
mul_nsmul-true ds v s with base val fill beside hold = *ℤ_assoc (letter v with 1) (letter v with 2) (letter v with 0)

nsmul_add-true : IsTrueRow nsmul_add
nsmul_add-true ds v s with base val fill beside hold = *ℤ-+ℤ (letter v with 2) (letter v with 0) (letter v with 1)

neg_zsmul-true : IsTrueRow neg_zsmul
neg_zsmul-true ds v s with base val fill beside hold = neg_ℤ-*ℤ (letter v with 1) (letter v with 0)

add_zsmul-true : IsTrueRow add_zsmul
add_zsmul-true ds v s with base val fill beside hold = +ℤ-*ℤ (letter v with 1) (letter v with 2) (letter v with 0)

mul_zsmul-true : IsTrueRow mul_zsmul
mul_zsmul-true ds v s with base val fill beside hold = *ℤ_assoc (letter v with 1) (letter v with 2) (letter v with 0)

zsmul_add-true : IsTrueRow zsmul_add
zsmul_add-true ds v s with base val fill beside hold = *ℤ-+ℤ (letter v with 2) (letter v with 0) (letter v with 1)

pub multiple_laws-true : All IsTrueRow multiple_laws
unfolding multiple_laws
multiple_laws-true = All-from_recursion IsTrueRow multiple_laws (zero_nsmul-true, (succ_nsmul-true, (add_nsmul-true, (mul_nsmul-true, (nsmul_add-true, (neg_zsmul-true, (add_zsmul-true, (mul_zsmul-true, (zsmul_add-true, tt)))))))))
