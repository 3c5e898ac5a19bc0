-- Laws of the powers of whole numbers.
use Rattle.std.proofs.Common.{◌≡◌, ℕ, zero, suc, ◌+◌, ◌*◌, ◌%◌, ◌^◌, ◌<◌, ℤ, pos, negsuc, neg_ℤ, ◌*ℤ◌, Bool, true, false, not, cond, arith, refl, ap, sym, ◌∙◌, add-zero, add-suc}
use Rattle.std.specs.Prelude.{unsigned_abs, ◌==◌}
use Rattle.std.specs.Int.{int_pow}
use Rattle.std.proofs.Math.Nat.{pow-zero, pow-suc}
use Rattle.std.proofs.Math.IntN.{neg_ℤ-neg_ℤ, pos-*ℤ-negsuc}
use Rattle.alg_num.proofs.IntegerLaws.{*ℤ_assoc, *ℤ-pos_one, neg_ℤ-*ℤ, positive_product}

unsigned_abs-cond : (t : Bool) (n : ℕ) → unsigned_abs (cond t (pos n) (neg_ℤ (pos n))) ≡ n
unsigned_abs-cond true n = refl
unsigned_abs-cond false zero = refl
unsigned_abs-cond false (suc n) = refl

pub unsigned_abs-int_pow : (a : ℤ) (n : ℕ) → unsigned_abs (int_pow a n) ≡ unsigned_abs a ^ n
unsigned_abs-int_pow (pos a) n = refl
unsigned_abs-int_pow (negsuc a) n = unsigned_abs-cond (n % 2 == 0) (suc a ^ n)

pub int_pow-zero : (a : ℤ) → int_pow a 0 ≡ pos 1
int_pow-zero (pos a) = ap pos (pow-zero a)
int_pow-zero (negsuc a) = ap pos (pow-zero (suc a))

even-suc : (n : ℕ) → (suc n % 2 == 0) ≡ not (n % 2 == 0)
even-suc n = grind arith

signed_step : (t u : Bool) (q a : ℕ) → u ≡ not t → cond u (pos (q * suc a)) (neg_ℤ (pos (q * suc a))) ≡ cond t (pos q) (neg_ℤ (pos q)) *ℤ negsuc a
signed_step true true q a e = cc
signed_step true false q a e = sym (pos-*ℤ-negsuc q a)
signed_step false true q a e = sym (neg_ℤ-*ℤ (pos q) (negsuc a) ∙ ap neg_ℤ (pos-*ℤ-negsuc q a) ∙ neg_ℤ-neg_ℤ (pos (q * suc a)))
signed_step false false q a e = cc

pub int_pow-suc : (a : ℤ) (n : ℕ) → int_pow a (suc n) ≡ int_pow a n *ℤ a
int_pow-suc (pos a) n = ap pos (pow-suc a n)
int_pow-suc (negsuc a) n =
    ap (λ p. cond (suc n % 2 == 0) (pos p) (neg_ℤ (pos p))) (pow-suc (suc a) n)
    ∙ signed_step (n % 2 == 0) (suc n % 2 == 0) (suc a ^ n) a (even-suc n)

pub int_pow-add : (a : ℤ) (m n : ℕ) → int_pow a (m + n) ≡ int_pow a m *ℤ int_pow a n
int_pow-add a m zero = ap (int_pow a) (add-zero m) ∙ sym (ap (λ z. int_pow a m *ℤ z) (int_pow-zero a) ∙ *ℤ-pos_one (int_pow a m))
int_pow-add a m (suc n) =
    ap (int_pow a) (add-suc m n)
    ∙ int_pow-suc a (m + n)
    ∙ ap (λ z. z *ℤ a) (int_pow-add a m n)
    ∙ *ℤ_assoc (int_pow a m) (int_pow a n) a
    ∙ ap (λ z. int_pow a m *ℤ z) (sym (int_pow-suc a n))

pub positive_power : (d n : ℕ) → 0 < d → 0 < d ^ n
positive_power d zero h = rw (pow-zero d) (omega arith)
positive_power d (suc n) h = rw (pow-suc d n) (positive_product (d ^ n) d (positive_power d n h) h)
