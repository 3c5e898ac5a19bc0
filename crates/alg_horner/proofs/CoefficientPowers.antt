-- Powers of one coefficient.
use Rattle.std.proofs.Common.{◌≡◌, ℕ, suc, zero, Bool, true, false, cond, ◌+◌, ◌*◌, ◌<◌, ◌≤◌, ◌^◌, ◌⊎◌, inl, inr, refl, sym, ap, ap₂, subst, ◌∙◌, arith, lit≤}
use Rattle.std.proofs.Math.Nat.{pow-le-pow_left, pow-le-pow_right, pow-suc}
use Rattle.std.proofs.lemmas.Bool.{cases_lt}
use Rattle.alg_sums.specs.Coefficients.{Coefficients}
use Rattle.alg_sums.specs.Size.{is_whole, size_of, IsScaled}
use Rattle.alg_sums.proofs.RingLaws.{nil_times, minus_nil, minus_unique, plus_times}
use Rattle.alg_sums.proofs.Sizes.{is_scaled, scaled_size, scaled_whole, whole_more, bottom_one}
use Rattle.alg_horner.specs.Form.{constant}
use Rattle.alg_horner.specs.Facts.{CanMultiply}
use Rattle.alg_horner.specs.Powers.{power_of, CanPower, IsEnough}
use Rattle.alg_horner.proofs.Multiplying.{whole_by}
use Rattle.alg_horner.proofs.Powers.{power_below, power_positive}
use Rattle.alg_horner.proofs.Singles.{power_scaled}

-- a number with a small power at 127 or more is at most 1
small_by : (x n : ℕ) → 127 ≤ n → x ^ n ≤ 2 ^ 126 → (1 < x) ⊎ (x ≤ 1) → x ≤ 1
small_by x n h k (inl l) = absurd (omega (arith, pow-le-pow_left l n, pow-le-pow_right {n = 2} (lit≤ tt) h, k))
small_by x n h k (inr l) = l

small_base : (x n : ℕ) → 127 ≤ n → x ^ n ≤ 2 ^ 126 → x ≤ 1
small_base x n h k = small_by x n h k (cases_lt 1 x)

one_by : (k b : ℕ) → 1 ≡ k * b → b ≡ 1 → k ≡ 1
one_by k b e f = let g : k * b ≡ k * 1 = ap (λ x. k * x) f in omega (arith, e, g)

module _ {C : Type 0} (r : Coefficients C) where
  minus_times : (a b : C) → r.times (r.minus a) b ≡ r.minus (r.times a b)
  minus_times a b = minus_unique r (r.times a b) (r.times (r.minus a) b) (sym (plus_times r a (r.minus a) b) ∙ ap (λ x. r.times x b) (r.plus_minus a) ∙ nil_times r b)

  minus_minus : (a : C) → r.minus (r.minus a) ≡ a
  minus_minus a = sym (minus_unique r (r.minus a) a (r.plus_comm (r.minus a) a ∙ r.plus_minus a))

  abbrev pub IsOwnCube : C → Type 0
  IsOwnCube c = r.times (r.times c c) c ≡ c

  nil_cube : IsOwnCube r.nil
  nil_cube = ap (λ x. r.times x r.nil) (nil_times r r.nil) ∙ nil_times r r.nil

  one_cube : IsOwnCube r.one
  one_cube = ap (λ x. r.times x r.one) (r.times_one r.one) ∙ r.times_one r.one

  minus_one_square : r.times (r.minus r.one) (r.minus r.one) ≡ r.one
  minus_one_square = minus_times r.one (r.minus r.one) ∙ ap r.minus (r.times_comm r.one (r.minus r.one) ∙ r.times_one (r.minus r.one)) ∙ minus_minus r.one

  minus_one_cube : IsOwnCube (r.minus r.one)
  minus_one_cube = ap (λ x. r.times x (r.minus r.one)) minus_one_square ∙ r.times_comm r.one (r.minus r.one) ∙ r.times_one (r.minus r.one)

  number_over_one : (n : ℕ) → r.times (r.number n) (r.inverse (r.number 1)) ≡ r.number n
  number_over_one n = ap (r.times (r.number n)) (ap r.inverse r.number_one ∙ r.inverse_one) ∙ r.times_one (r.number n)

  cube_by : (t : ℕ) (b : Bool) → t ≤ 1 → IsOwnCube (cond b (r.minus (r.number t)) (r.number t))
  cube_by zero true h = subst IsOwnCube (minus_nil r ∙ ap r.minus (sym r.number_zero)) nil_cube
  cube_by zero false h = subst IsOwnCube (sym r.number_zero) nil_cube
  cube_by (suc zero) true h = subst IsOwnCube (ap r.minus (sym r.number_one)) minus_one_cube
  cube_by (suc zero) false h = subst IsOwnCube (sym r.number_one) one_cube
  cube_by (suc (suc t)) b h = absurd (omega (arith, h))

  spelled : (c : C) (t : ℕ) → r.top c ≡ t → r.bottom c ≡ 1 → cond (r.is_negative c) (r.minus (r.number t)) (r.number t) ≡ c
  spelled c t e f =
      sym (ap (λ x. cond (r.is_negative c) (r.minus x) x) (ap₂ (λ m d. r.times (r.number m) (r.inverse (r.number d))) e f ∙ number_over_one t))
      ∙ r.read c

  small_cube : (c : C) (s : ℕ) → IsScaled r 1 c s → s ≤ 1 → IsOwnCube c
  small_cube c s h l =
      let f : r.bottom c ≡ 1 = bottom_one r c s h in
      let k : h.by ≡ 1 = one_by h.by (r.bottom c) h.over f in
      let e : s ≡ r.top c = h.size ∙ ap (λ x. x * r.top c) k ∙ (let z : 1 * r.top c ≡ r.top c = omega arith in z) in
      subst IsOwnCube (spelled c (r.top c) refl f) (cube_by (r.top c) (r.is_negative c) (omega (arith, e, l)))

  -- a coefficient with a great power is 0, 1 or -1
  pub great_power : (c : C) (n : ℕ) → 127 ≤ n → CanPower r (constant c) n → IsOwnCube c
  great_power c n h p =
      let d = p.denominator in
      let e : d ≤ 1 = small_base d n h p.bounded in
      let f : d ≡ 1 = omega (arith, e, p.positive) in
      let s : IsScaled r d c (size_of r d c) = is_scaled r d c (whole_by r (is_whole r d c) p.whole) in
      small_cube c (size_of r d c) (subst (λ (x : ℕ). IsScaled r x c (size_of r d c)) f s) (small_base (size_of r d c) n h p.small)

  -- two more factors change nothing then
  more : (c p : C) → IsOwnCube c → r.times (r.times (r.times p c) c) c ≡ r.times p c
  more c p e =
      r.times_assoc (r.times p c) c c
      ∙ r.times_assoc p c (r.times c c)
      ∙ ap (r.times p) (sym (r.times_assoc c c c) ∙ e)

  pub same_parity : (c : C) → IsOwnCube c → (j k n : ℕ) → n ≡ suc k + 2 * j → power_of r c n ≡ power_of r c (suc k)
  same_parity c e zero k n h = ap (power_of r c) (let q : n ≡ suc k = omega (arith, h) in q)
  same_parity c e (suc j) k n h =
      ap (power_of r c) (let q : n ≡ suc (suc (suc (k + 2 * j))) = omega (arith, h) in q)
      ∙ more c (power_of r c (k + 2 * j)) e
      ∙ same_parity c e j k (suc (k + 2 * j)) (omega arith)

  -- the next factor is allowed
  pub next_can : (c : C) (n i : ℕ) → i < n → CanPower r (constant c) n → CanMultiply r (power_of r c i) c
  next_can c n i l p =
      let d = p.denominator in
      let s = size_of r d c in
      let w : is_whole r d c ≡ true = whole_by r (is_whole r d c) p.whole in
      let x = is_scaled r d c w in
      let y = power_scaled r d c s i x in
      let z = power_scaled r d c s (suc i) x in
      let a : is_whole r (d ^ i * d) (power_of r c i) ≡ true = whole_more r (d ^ i) d (power_of r c i) (scaled_whole r (d ^ i) (power_of r c i) (s ^ i) y) in
      let b : is_whole r (d * d ^ i) c ≡ true = whole_more r d (d ^ i) c w in
      record {
        denominator = d ^ suc i;
        positive = power_positive d (suc i) p.positive;
        bounded = power_below d (suc i) n (2 ^ 126) (omega (arith, l)) (lit≤ tt) p.bounded;
        first = subst (λ (k : ℕ). is_whole r k (power_of r c i) ≡ true) (sym (pow-suc d i)) a;
        second = subst (λ (k : ℕ). is_whole r k c ≡ true) (let q : d * d ^ i ≡ d ^ i * d = omega arith in q ∙ sym (pow-suc d i)) b;
        small = omega (arith, scaled_size r (d ^ suc i) (power_of r c (suc i)) (s ^ suc i) z, power_below s (suc i) n (2 ^ 126) (omega (arith, l)) (lit≤ tt) p.small);
      }

  enough_by : (c : C) (n k : ℕ) → IsEnough n k → CanPower r (constant c) n → (128 < n) ⊎ (n ≤ 128) → power_of r c k ≡ power_of r c n
  enough_by c n zero h p (inl l) = absurd (omega (arith, h.least l))
  enough_by c n (suc k) h p (inl l) = sym (same_parity c (great_power c n (omega (arith, l)) p) h.pairs k n h.even)
  enough_by c n k h p (inr l) = ap (power_of r c) (h.same l)

  pub enough : (c : C) (n k : ℕ) → IsEnough n k → CanPower r (constant c) n → power_of r c k ≡ power_of r c n
  enough c n k h p = enough_by c n k h p (cases_lt 128 n)
