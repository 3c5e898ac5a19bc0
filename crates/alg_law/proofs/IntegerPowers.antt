-- Laws of the powers of integers: those of alg_num, and some that follow from them.
use Rattle.std.proofs.Common.{◌≡◌, ℕ, zero, suc, ◌+◌, ◌*◌, ℤ, pos, ◌*ℤ◌, arith, ap, ap₂, sym, ◌∙◌, mul-zero}
use Rattle.std.specs.Int.{int_pow}
pub use Rattle.alg_num.proofs.PowerLaws.{int_pow-zero, int_pow-suc, int_pow-add}
use Rattle.alg_law.proofs.IntegerLaws.{*ℤ-pos_one, *ℤ_swap_middle}

pub int_pow-mul : (a : ℤ) (m n : ℕ) → int_pow a (m * n) ≡ int_pow (int_pow a m) n
int_pow-mul a m zero = ap (int_pow a) (mul-zero m) ∙ int_pow-zero a ∙ sym (int_pow-zero (int_pow a m))
int_pow-mul a m (suc n) =
    let e : m * suc n ≡ m * n + m = omega arith in
    ap (int_pow a) e
    ∙ int_pow-add a (m * n) m
    ∙ ap (λ z. z *ℤ int_pow a m) (int_pow-mul a m n)
    ∙ sym (int_pow-suc (int_pow a m) n)

pub int_pow-one : (n : ℕ) → int_pow (pos 1) n ≡ pos 1
int_pow-one zero = int_pow-zero (pos 1)
int_pow-one (suc n) = int_pow-suc (pos 1) n ∙ *ℤ-pos_one (int_pow (pos 1) n) ∙ int_pow-one n

pub int_pow-*ℤ : (a b : ℤ) (n : ℕ) → int_pow (a *ℤ b) n ≡ int_pow a n *ℤ int_pow b n
int_pow-*ℤ a b zero = int_pow-zero (a *ℤ b) ∙ sym (ap₂ (λ x y. x *ℤ y) (int_pow-zero a) (int_pow-zero b))
int_pow-*ℤ a b (suc n) =
    int_pow-suc (a *ℤ b) n
    ∙ ap (λ z. z *ℤ (a *ℤ b)) (int_pow-*ℤ a b n)
    ∙ *ℤ_swap_middle (int_pow a n) (int_pow b n) a b
    ∙ ap₂ (λ x y. x *ℤ y) (sym (int_pow-suc a n)) (sym (int_pow-suc b n))
