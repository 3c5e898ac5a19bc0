-- A commutative ring of coefficients whose elements are spelled as signed quotients of numbers.
use Rattle.std.specs.Prelude.{◌≡◌, ℕ, ◌+◌, ◌*◌, ◌<◌, ◌≤◌, Bool, true, false, cond}

pub record Coefficients (C : Type 0) : Type 0 where
  pub nil : C
  pub one : C
  pub plus : C → C → C
  pub times : C → C → C
  pub minus : C → C
  -- that of nil is nil
  pub inverse : C → C
  pub number : ℕ → C
  pub is_nil : C → Bool
  -- the element is top / bottom, negated where it is negative
  pub is_negative : C → Bool
  pub top : C → ℕ
  pub bottom : C → ℕ
  pub plus_assoc : (a b c : C) → plus (plus a b) c ≡ plus a (plus b c)
  pub plus_comm : (a b : C) → plus a b ≡ plus b a
  pub plus_nil : (a : C) → plus a nil ≡ a
  pub plus_minus : (a : C) → plus a (minus a) ≡ nil
  pub times_comm : (a b : C) → times a b ≡ times b a
  pub times_assoc : (a b c : C) → times (times a b) c ≡ times a (times b c)
  pub times_plus : (a b c : C) → times a (plus b c) ≡ plus (times a b) (times a c)
  pub times_one : (a : C) → times a one ≡ a
  pub one_nil : one ≡ nil → ⊥
  pub is_nil-nil : is_nil nil ≡ true
  pub nil_is : (a : C) → is_nil a ≡ true → a ≡ nil
  pub number_zero : number 0 ≡ nil
  pub number_one : number 1 ≡ one
  pub number_plus : (m n : ℕ) → number (m + n) ≡ plus (number m) (number n)
  pub number_times : (m n : ℕ) → number (m * n) ≡ times (number m) (number n)
  pub inverse_one : inverse one ≡ one
  pub read : (a : C) → cond (is_negative a) (minus (times (number (top a)) (inverse (number (bottom a))))) (times (number (top a)) (inverse (number (bottom a)))) ≡ a
  -- numerators and denominators
  pub bottom_positive : (a : C) → 0 < bottom a
  pub top_number : (n : ℕ) → top (number n) ≡ n
  pub bottom_number : (n : ℕ) → bottom (number n) ≡ 1
  pub top_minus : (a : C) → top (minus a) ≡ top a
  pub bottom_minus : (a : C) → bottom (minus a) ≡ bottom a
  -- a common denominator of two elements is one of their sum, and the numerators over it add up to no less than the sum's
  pub scaled_plus : (a b : C) (d m n : ℕ) → d ≡ m * bottom a → d ≡ n * bottom b → (k : ℕ) × (d ≡ k * bottom (plus a b)) × (k * top (plus a b) ≤ m * top a + n * top b)
  -- the product of two denominators is one of the product, and the numerator over it is the product of the numerators
  pub scaled_times : (a b : C) (d e m n : ℕ) → d ≡ m * bottom a → e ≡ n * bottom b → (k : ℕ) × (d * e ≡ k * bottom (times a b)) × (k * top (times a b) ≡ (m * top a) * (n * top b))
  -- the elements that are not negative are closed under sums and products
  pub positive_number : (n : ℕ) → is_negative (number n) ≡ false
  pub positive_plus : (a b : C) → is_negative a ≡ false → is_negative b ≡ false → is_negative (plus a b) ≡ false
  pub positive_times : (a b : C) → is_negative a ≡ false → is_negative b ≡ false → is_negative (times a b) ≡ false
