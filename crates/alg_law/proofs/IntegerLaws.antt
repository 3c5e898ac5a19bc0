-- Laws of the integers that std lacks: those of alg_num, and some that follow from them.
use Rattle.std.proofs.Common.{◌≡◌, ℤ, pos, ◌+ℤ◌, ◌*ℤ◌, ◌-ℤ◌, neg_ℤ, arith, ap, ◌∙◌}
use Rattle.std.proofs.lemmas.Int.{ints}
use Rattle.std.proofs.Math.IntN.{neg_ℤ-neg_ℤ}
pub use Rattle.alg_num.proofs.IntegerLaws.{*ℤ_assoc, *ℤ-pos_one, *ℤ-+ℤ, +ℤ-*ℤ, *ℤ--ℤ, neg_ℤ-*ℤ, *ℤ-neg_ℤ, *ℤ_swap_middle}

pub pos_one-*ℤ : (a : ℤ) → pos 1 *ℤ a ≡ a
pos_one-*ℤ a = omega (arith, ints)

pub difference_times : (a b c : ℤ) → (a -ℤ b) *ℤ c ≡ a *ℤ c -ℤ b *ℤ c
difference_times a b c = +ℤ-*ℤ a (neg_ℤ b) c ∙ ap (λ z. a *ℤ c +ℤ z) (neg_ℤ-*ℤ b c)

pub neg_ℤ-*ℤ-neg_ℤ : (a b : ℤ) → neg_ℤ a *ℤ neg_ℤ b ≡ a *ℤ b
neg_ℤ-*ℤ-neg_ℤ a b = neg_ℤ-*ℤ a (neg_ℤ b) ∙ ap neg_ℤ (*ℤ-neg_ℤ a b) ∙ neg_ℤ-neg_ℤ (a *ℤ b)
