use Rattle.std.proofs.Common.{◌≡◌, ℕ, zero, suc, ◌^◌, ◌%◌, ◌<◌, ◌≤◌, ℤ, pos, negsuc, arith, refl, ◌∙◌, cond, Bool, true, false, lit≤, subst, eqb-true}
use Rattle.std.specs.Prelude.{unsigned_abs, ◌==◌}
use Rattle.std.specs.Int.{int_pow}
use Rattle.alg_num.proofs.PowerLaws.{unsigned_abs-int_pow}
use Rattle.std.proofs.Math.Nat.{pow-zero, pow-suc, pow-le-pow_left, pow-le-pow_right, mul-one, mul-zero}

pub one-pow : (n : ℕ) → 1 ^ n ≡ 1
one-pow zero = pow-zero 1
one-pow (suc n) = pow-suc 1 n ∙ mul-one (1 ^ n) ∙ one-pow n

pub zero-pow : (n : ℕ) → 0 < n → 0 ^ n ≡ 0
zero-pow zero h = absurd (omega arith)
zero-pow (suc n) h = pow-suc 0 n ∙ mul-zero (0 ^ n)

-- a number of two or more is past 2 ^ 127 at the power 127
pub power_past : (a : ℤ) (n : ℕ) → 1 < unsigned_abs a → 127 ≤ n → 2 ^ 127 ≤ unsigned_abs (int_pow a n)
power_past a n h k = rw (unsigned_abs-int_pow a n) (omega (arith, pow-le-pow_left h n, pow-le-pow_right {n = 2} (lit≤ tt) k))

-- the power that equals a small number is within the range
pub is_small : (v z : ℤ) → unsigned_abs v ≤ 1 → v ≡ z → (unsigned_abs z < 2 ^ 127) × (v ≡ z)
is_small v z h e = let P : ℤ → Type 0 = λ y. unsigned_abs y ≤ 1 in let k : unsigned_abs z ≤ 1 = subst P e h in (omega (arith, k), e)

pub int_pow-minus : (n : ℕ) → int_pow (negsuc 0) n ≡ cond (n % 2 == 0) (pos 1) (negsuc 0)
int_pow-minus n = rw one-pow refl

pub minus-even : (n : ℕ) → n % 2 ≡ 0 → pos 1 ≡ int_pow (negsuc 0) n
minus-even n h = rw one-pow (rw h refl)

cond-odd : (t : Bool) (m : ℕ) → (m == 0) ≡ t → (m ≡ 0 → ⊥) → negsuc 0 ≡ cond t (pos 1) (negsuc 0)
cond-odd true m e h = absurd (h (eqb-true m 0 e))
cond-odd false m e h = refl

pub minus-odd : (n : ℕ) → (n % 2 ≡ 0 → ⊥) → negsuc 0 ≡ int_pow (negsuc 0) n
minus-odd n h = rw one-pow (cond-odd (n % 2 == 0) (n % 2) refl h)

pub large : (a : ℤ) → (a ≡ pos 1 → ⊥) → (a ≡ pos 0 → ⊥) → (a ≡ negsuc 0 → ⊥) → 1 < unsigned_abs a
large (pos zero) h i j = absurd (i refl)
large (pos (suc zero)) h i j = absurd (h refl)
large (pos (suc (suc n))) h i j = omega arith
large (negsuc zero) h i j = absurd (j refl)
large (negsuc (suc n)) h i j = omega arith
