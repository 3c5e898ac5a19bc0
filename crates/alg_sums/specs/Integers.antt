-- The integers as coefficients.
use Rattle.std.proofs.Common.{◌≡◌, ℕ, suc, ◌+◌, ◌*◌, ◌<◌, ◌≤◌, ℤ, pos, negsuc, neg_ℤ, ◌+ℤ◌, ◌*ℤ◌, Bool, true, false, cond, arith, refl, ap, ap₂, sym, ◌∙◌}
use Rattle.std.specs.Prelude.{unsigned_abs, ◌==◌}
use Rattle.std.proofs.lemmas.Int.{ints, unsigned_abs-mul}
use Rattle.std.proofs.Math.Nat.{mul-le-mul_left}
use Rattle.std.proofs.Math.IntN.{+ℤ_assoc, +ℤ_comm, +ℤ_idr, *ℤ_comm}
use Rattle.alg_num.proofs.IntegerLaws.{*ℤ-pos_one, *ℤ_assoc, *ℤ-+ℤ}
use Rattle.alg_sums.specs.Coefficients.{Coefficients}
use Rattle.alg_sums.specs.Rational.{negative, not_negative, at_least_zero, products_sign}

pub plus_minus : (a : ℤ) → a +ℤ neg_ℤ a ≡ pos 0
plus_minus a = omega (arith, ints)

pub one_zero : pos 1 ≡ pos 0 → ⊥
one_zero e = omega (arith, ints, ap unsigned_abs e)

zero_by : (n : ℕ) → (n == 0) ≡ true → n ≡ 0
zero_by n e = grind (arith, e)

pub is_zero : (z : ℤ) → (unsigned_abs z == 0) ≡ true → z ≡ pos 0
is_zero z h = omega (arith, ints, zero_by (unsigned_abs z) h)

pub read : (z : ℤ) → cond (negative z) (neg_ℤ (pos (unsigned_abs z) *ℤ pos 1)) (pos (unsigned_abs z) *ℤ pos 1) ≡ z
read (pos n) = *ℤ-pos_one (pos n)
read (negsuc n) = ap neg_ℤ (*ℤ-pos_one (pos (suc n)))

abs_plus : (a b : ℤ) → unsigned_abs (a +ℤ b) ≤ unsigned_abs a + unsigned_abs b
abs_plus a b = omega (arith, ints)

pub abs_minus : (a : ℤ) → unsigned_abs (neg_ℤ a) ≡ unsigned_abs a
abs_minus a = omega (arith, ints)

once : (n : ℕ) → n ≡ n * 1
once n = omega arith

same_factor : (d m : ℕ) → d ≡ m * 1 → m ≡ d
same_factor d m e = omega (arith, e)

pub scaled_plus : (a b : ℤ) (d m n : ℕ) → d ≡ m * 1 → d ≡ n * 1 → (k : ℕ) × (d ≡ k * 1) × (k * unsigned_abs (a +ℤ b) ≤ m * unsigned_abs a + n * unsigned_abs b)
scaled_plus a b d m n e f =
    let x : m * unsigned_abs a ≡ d * unsigned_abs a = ap (λ k. k * unsigned_abs a) (same_factor d m e) in
    let y : n * unsigned_abs b ≡ d * unsigned_abs b = ap (λ k. k * unsigned_abs b) (same_factor d n f) in
    let z : d * unsigned_abs (a +ℤ b) ≤ d * (unsigned_abs a + unsigned_abs b) = mul-le-mul_left d (abs_plus a b) in
    (d, once d, omega (arith, x, y, z))

products : (d e a b : ℕ) → (d * e) * (a * b) ≡ (d * a) * (e * b)
products d e a b = omega arith

pub scaled_times : (a b : ℤ) (d e m n : ℕ) → d ≡ m * 1 → e ≡ n * 1 → (k : ℕ) × (d * e ≡ k * 1) × (k * unsigned_abs (a *ℤ b) ≡ (m * unsigned_abs a) * (n * unsigned_abs b))
scaled_times a b d e m n f g =
    let x : m * unsigned_abs a ≡ d * unsigned_abs a = ap (λ k. k * unsigned_abs a) (same_factor d m f) in
    let y : n * unsigned_abs b ≡ e * unsigned_abs b = ap (λ k. k * unsigned_abs b) (same_factor e n g) in
    (d * e, once (d * e), ap (λ k. (d * e) * k) (unsigned_abs-mul a b) ∙ products d e (unsigned_abs a) (unsigned_abs b) ∙ sym (ap₂ (λ p q. p * q) x y))

pub positive_plus : (a b : ℤ) → negative a ≡ false → negative b ≡ false → negative (a +ℤ b) ≡ false
positive_plus (pos a) (pos b) e f = refl
positive_plus (pos a) (negsuc b) e f = cc
positive_plus (negsuc a) b e f = cc

pub positive_times : (a b : ℤ) → negative a ≡ false → negative b ≡ false → negative (a *ℤ b) ≡ false
positive_times a b e f = not_negative (a *ℤ b) (products_sign a b (at_least_zero a e) (at_least_zero b f))

pub one_positive : 0 < 1
one_positive = omega arith

-- no inverse of another number than 1 is asked for
unfoldable pub integers : Coefficients ℤ
integers = record {
  nil = pos 0;
  one = pos 1;
  plus = λ a b. a +ℤ b;
  times = λ a b. a *ℤ b;
  minus = neg_ℤ;
  inverse = λ a. a;
  number = pos;
  is_nil = λ a. unsigned_abs a == 0;
  is_negative = negative;
  top = unsigned_abs;
  bottom = λ a. 1;
  plus_assoc = +ℤ_assoc;
  plus_comm = +ℤ_comm;
  plus_nil = +ℤ_idr;
  plus_minus = plus_minus;
  times_comm = *ℤ_comm;
  times_assoc = *ℤ_assoc;
  times_plus = *ℤ-+ℤ;
  times_one = *ℤ-pos_one;
  one_nil = one_zero;
  is_nil-nil = refl;
  nil_is = is_zero;
  number_zero = refl;
  number_one = refl;
  number_plus = λ m n. refl;
  number_times = λ m n. refl;
  inverse_one = refl;
  read = read;
  bottom_positive = λ a. one_positive;
  top_number = λ n. refl;
  bottom_number = λ n. refl;
  top_minus = abs_minus;
  bottom_minus = λ a. refl;
  scaled_plus = scaled_plus;
  scaled_times = scaled_times;
  positive_number = λ n. refl;
  positive_plus = positive_plus;
  positive_times = positive_times;
}
