-- Sizes of elements over common denominators.
use Rattle.std.proofs.Common.{◌≡◌, ℕ, zero, suc, ◌+◌, ◌*◌, ◌/◌, ◌%◌, ◌≤◌, ◌^◌, Bool, true, false, cond, arith, refl, ap, ap₂, sym, ◌∙◌, subst}
use Rattle.std.specs.Prelude.{◌==◌}
use Rattle.std.proofs.lemmas.Nat.{div-add-mod'}
use Rattle.std.proofs.Math.Nat.{mul-mod_left, mul-div_cancel}
use Rattle.alg_sums.specs.Coefficients.{Coefficients}
use Rattle.alg_sums.specs.Size.{is_whole, size_of, IsScaled}

zero_by : (n : ℕ) → (n == 0) ≡ true → n ≡ 0
zero_by n e = grind (arith, e)

by_zero : (n : ℕ) → n ≡ 0 → (n == 0) ≡ true
by_zero n e = rw e refl

by_small : (b : Bool) (x : ℕ) → cond b x (2 ^ 127) ≤ 2 ^ 126 → b ≡ true
by_small true x h = refl
by_small false x h = absurd (omega (arith, h))

module _ {C : Type 0} (r : Coefficients C) where
  pub whole_by : (d k : ℕ) (a : C) → d ≡ k * r.bottom a → is_whole r d a ≡ true
  unfolding is_whole
  whole_by d k a e = by_zero (d % r.bottom a) (ap (λ x. x % r.bottom a) e ∙ mul-mod_left k (r.bottom a))

  pub size_by : (d k : ℕ) (a : C) → d ≡ k * r.bottom a → size_of r d a ≡ k * r.top a
  unfolding size_of
  size_by d k a e =
      ap (λ x. cond (x % r.bottom a == 0) (r.top a * (x / r.bottom a)) (2 ^ 127)) e
      ∙ ap₂ (λ m q. cond (m == 0) (r.top a * q) (2 ^ 127)) (mul-mod_left k (r.bottom a)) (mul-div_cancel k (r.bottom_positive a))
      ∙ (let c : r.top a * k ≡ k * r.top a = omega arith in c)

  pub whole_split : (d : ℕ) (a : C) → is_whole r d a ≡ true → d ≡ d / r.bottom a * r.bottom a
  unfolding is_whole
  whole_split d a h = let z = zero_by (d % r.bottom a) h in omega (arith, div-add-mod' d (r.bottom a), z)

  pub small_whole : (d : ℕ) (a : C) → size_of r d a ≤ 2 ^ 126 → is_whole r d a ≡ true
  unfolding is_whole size_of
  small_whole d a h = by_small (d % r.bottom a == 0) (r.top a * (d / r.bottom a)) h

  -- whole and of that size
  pub is_scaled : (d : ℕ) (a : C) → is_whole r d a ≡ true → IsScaled r d a (size_of r d a)
  is_scaled d a h = let e = whole_split d a h in record { by = d / r.bottom a; over = e; size = size_by d (d / r.bottom a) a e }

  pub scaled_whole : (d : ℕ) (a : C) (n : ℕ) → IsScaled r d a n → is_whole r d a ≡ true
  scaled_whole d a n h = whole_by d h.by a h.over

  pub scaled_size : (d : ℕ) (a : C) (n : ℕ) → IsScaled r d a n → size_of r d a ≡ n
  scaled_size d a n h = size_by d h.by a h.over ∙ sym h.size

  pub whole_more : (d e : ℕ) (a : C) → is_whole r d a ≡ true → is_whole r (d * e) a ≡ true
  whole_more d e a h =
      let f = whole_split d a h in
      whole_by (d * e) (d / r.bottom a * e) a (omega (arith, ap (λ x. x * e) f))

  pub number_scaled : (d n : ℕ) → IsScaled r d (r.number n) (n * d)
  number_scaled d n = record {
    by = d;
    over = (let e : d ≡ d * 1 = omega arith in e) ∙ ap (λ x. d * x) (sym (r.bottom_number n));
    size = (let e : n * d ≡ d * n = omega arith in e) ∙ ap (λ x. d * x) (sym (r.top_number n));
  }

  pub nil_scaled : (d : ℕ) → IsScaled r d r.nil 0
  nil_scaled d = subst (λ c. IsScaled r d c 0) r.number_zero (subst (λ n. IsScaled r d (r.number 0) n) (let e : 0 * d ≡ 0 = omega arith in e) (number_scaled d 0))

  pub size_nil : (d : ℕ) → size_of r d r.nil ≡ 0
  size_nil d = scaled_size d r.nil 0 (nil_scaled d)

  pub whole_nil : (d : ℕ) → is_whole r d r.nil ≡ true
  whole_nil d = scaled_whole d r.nil 0 (nil_scaled d)

  pub size_one : size_of r 1 r.one ≡ 1
  size_one = ap (size_of r 1) (sym r.number_one) ∙ scaled_size 1 (r.number 1) (1 * 1) (number_scaled 1 1)

  pub size_minus : (d : ℕ) (a : C) → size_of r d (r.minus a) ≡ size_of r d a
  unfolding size_of
  size_minus d a = ap₂ (λ t b. cond (d % b == 0) (t * (d / b)) (2 ^ 127)) (r.top_minus a) (r.bottom_minus a)

  pub whole_minus : (d : ℕ) (a : C) → is_whole r d (r.minus a) ≡ is_whole r d a
  unfolding is_whole
  whole_minus d a = ap (λ b. d % b == 0) (r.bottom_minus a)

  pub plus_scaled : (d : ℕ) (a b : C) (m n : ℕ) → IsScaled r d a m → IsScaled r d b n → (x : ℕ) × IsScaled r d (r.plus a b) x × (x ≤ m + n)
  plus_scaled d a b m n h i =
      let s = r.scaled_plus a b d h.by i.by h.over i.over in
      (s.0 * r.top (r.plus a b), record { by = s.0; over = s.1; size = refl }, omega (arith, s.2, h.size, i.size))

  pub times_scaled : (d e : ℕ) (a b : C) (m n : ℕ) → IsScaled r d a m → IsScaled r e b n → IsScaled r (d * e) (r.times a b) (m * n)
  times_scaled d e a b m n h i =
      let s = r.scaled_times a b d e h.by i.by h.over i.over in
      record { by = s.0; over = s.1; size = ap₂ (λ x y. x * y) h.size i.size ∙ sym s.2 }

  pub minus_scaled : (d : ℕ) (a : C) (m : ℕ) → IsScaled r d a m → IsScaled r d (r.minus a) m
  minus_scaled d a m h = record { by = h.by; over = h.over ∙ ap (λ x. h.by * x) (sym (r.bottom_minus a)); size = h.size ∙ ap (λ x. h.by * x) (sym (r.top_minus a)) }

  pub size_plus : (d : ℕ) (a b : C) → size_of r d a + size_of r d b ≤ 2 ^ 126 → size_of r d (r.plus a b) ≤ size_of r d a + size_of r d b
  size_plus d a b h =
      let x = is_scaled d a (small_whole d a (omega (arith, h))) in
      let y = is_scaled d b (small_whole d b (omega (arith, h))) in
      let s = plus_scaled d a b (size_of r d a) (size_of r d b) x y in
      let e = scaled_size d (r.plus a b) s.0 s.1 in
      omega (arith, e, s.2)

  pub size_times : (d e : ℕ) (a b : C) → is_whole r d a ≡ true → is_whole r e b ≡ true → size_of r (d * e) (r.times a b) ≡ size_of r d a * size_of r e b
  size_times d e a b h i = scaled_size (d * e) (r.times a b) (size_of r d a * size_of r e b) (times_scaled d e a b (size_of r d a) (size_of r e b) (is_scaled d a h) (is_scaled e b i))

  -- whole numbers are those whose denominator is 1
  one_factor : (k b : ℕ) → 1 ≡ k * b → b ≡ 1
  one_factor zero b e = absurd (omega (arith, e))
  one_factor (suc k) zero e = absurd (omega (arith, e))
  one_factor (suc k) (suc zero) e = refl
  one_factor (suc k) (suc (suc b)) e = absurd (omega (arith, e))

  pub bottom_one : (a : C) (n : ℕ) → IsScaled r 1 a n → r.bottom a ≡ 1
  bottom_one a n h = one_factor h.by (r.bottom a) h.over

  pub one_scaled : (a : C) → r.bottom a ≡ 1 → IsScaled r 1 a (r.top a)
  one_scaled a e = record { by = 1; over = sym e ∙ (let x : r.bottom a ≡ 1 * r.bottom a = omega arith in x); size = let x : r.top a ≡ 1 * r.top a = omega arith in x }

  pub bottom_plus : (a b : C) → r.bottom a ≡ 1 → r.bottom b ≡ 1 → r.bottom (r.plus a b) ≡ 1
  bottom_plus a b e f = let s = plus_scaled 1 a b (r.top a) (r.top b) (one_scaled a e) (one_scaled b f) in bottom_one (r.plus a b) s.0 s.1

  pub bottom_times : (a b : C) → r.bottom a ≡ 1 → r.bottom b ≡ 1 → r.bottom (r.times a b) ≡ 1
  bottom_times a b e f = bottom_one (r.times a b) (r.top a * r.top b) (times_scaled 1 1 a b (r.top a) (r.top b) (one_scaled a e) (one_scaled b f))
