-- The denominator of a closed tree times its fraction is whole, and no greater than the weight.
use Rattle.std.proofs.Common.{◌≡◌, ℕ, zero, suc, ◌+◌, ◌*◌, ◌/◌, ◌^◌, ◌<◌, ◌≤◌, ℤ, pos, negsuc, neg_ℤ, ◌+ℤ◌, ◌*ℤ◌, arith, refl, ap, ap₂, sym, ◌∙◌, le_refl}
use Rattle.std.specs.Prelude.{unsigned_abs}
use Rattle.std.specs.Int.{IsGcd, int_pow}
use Rattle.std.proofs.lemmas.Int.{ints, unsigned_abs-mul}
use Rattle.std.proofs.lemmas.Nat.{mul-le}
use Rattle.std.proofs.lemmas.Nat.Gcd.{same_from_IsGcd}
use Rattle.std.proofs.Math.Nat.{pow-zero, pow-suc, pow-le-pow_left, div-mul_cancel, mul-div_cancel_left, mul-div_cancel, one-dvd}
use Rattle.alg_num.proofs.IntegerLaws.{as_difference, differences, difference-same, positive_product, positive_factor, neg_ℤ-*ℤ}
use Rattle.alg_num.proofs.CoprimeLaws.{gcd_positive}
use Rattle.alg_num.proofs.PowerLaws.{unsigned_abs-int_pow, int_pow-zero, int_pow-suc, positive_power}
use Rattle.alg_num.specs.Fraction.{Fraction, IsSameValue}
use Rattle.alg_num.proofs.LowestTermsLaws.{Reduces-self, Reduces-same, IsSameValue-trans}
use Rattle.alg_num.specs.Reduced.{greatest_divisor, reduced}
use Rattle.alg_num.proofs.ReducedLaws.{IsGcd-greatest_divisor, Reduces-reduced}
use Rattle.alg_num.proofs.FractionLaws.{sum_of-same, product_of-same}
use Rattle.alg_num.specs.Sum.{sum_of}
use Rattle.alg_num.specs.Product.{product_of}
use Rattle.alg_num.specs.Power.{power_of}
use Rattle.alg_num.specs.Negative.{negative_of}
use Rattle.alg_sums.specs.Inverse.{over_numerator, inverse_of}
use Rattle.alg_ring_range.specs.Fractions.{whole}
use Rattle.alg_law.specs.Computing.{least_multiple}
use Rattle.alg_ring_range.specs.Sizes.{literal_sizes, sum_sizes, product_sizes, power_sizes, inverse_sizes}
use Rattle.alg_ring_range.specs.Found.{IsTop}
use Rattle.alg_ring_range.specs.declared.sizes.Sizes.{Sizes}

-- the factors that lead to the least common multiple

module _ (a b : ℕ) (h : 0 < a) (i : 0 < b) where
  divides : IsGcd a b (greatest_divisor a b)
  divides = IsGcd-greatest_divisor a b

  swapped : a / greatest_divisor a b * b ≡ a * (b / greatest_divisor a b)
  swapped =
      let g = greatest_divisor a b in
      let x : a / g * g ≡ a = div-mul_cancel g divides.0 in
      let y : b / g * g ≡ b = div-mul_cancel g divides.1 in
      omega (arith, ap (λ n. n * (b / g)) x, ap (λ n. a / g * n) y)

  pub left_scale : least_multiple a b / a ≡ b / greatest_divisor a b
  left_scale = ap (λ m. m / a) swapped ∙ mul-div_cancel_left (b / greatest_divisor a b) h

  pub right_scale : least_multiple a b / b ≡ a / greatest_divisor a b
  right_scale = mul-div_cancel (a / greatest_divisor a b) i

  pub left_multiple : a * (least_multiple a b / a) ≡ least_multiple a b
  left_multiple = ap (λ m. a * m) left_scale ∙ sym swapped

  pub right_multiple : b * (least_multiple a b / b) ≡ least_multiple a b
  right_multiple = ap (λ m. b * m) right_scale ∙ (let e : b * (a / greatest_divisor a b) ≡ a / greatest_divisor a b * b = omega arith in e)

  pub scale_positive : 0 < least_multiple a b / a
  scale_positive = rw left_scale (positive_factor (b / greatest_divisor a b) (greatest_divisor a b) b i (div-mul_cancel (greatest_divisor a b) divides.1))

  pub other_positive : 0 < least_multiple a b / b
  other_positive = rw right_scale (positive_factor (a / greatest_divisor a b) (greatest_divisor a b) a h (div-mul_cancel (greatest_divisor a b) divides.0))

  pub multiple_positive : 0 < least_multiple a b
  multiple_positive = let e = left_multiple in let p = positive_product a (least_multiple a b / a) h scale_positive in omega (arith, e, p)

-- sums

spread_left : (m n : ℤ) (s t d : ℕ) → (m *ℤ pos s +ℤ n *ℤ pos t) *ℤ pos d ≡ m *ℤ pos (s * d) +ℤ n *ℤ pos (t * d)
spread_left m n s t d = rw (as_difference m, as_difference n) (simp differences (difference-same _ _ _ _ (omega arith)))

over_multiple : (m n : ℤ) (a b s t l : ℕ) → a * s ≡ l → b * t ≡ l → (m *ℤ pos s +ℤ n *ℤ pos t) *ℤ pos (a * b) ≡ (m *ℤ pos b +ℤ n *ℤ pos a) *ℤ pos l
over_multiple m n a b s t l e f =
    spread_left m n s t (a * b)
    ∙ ap₂ (λ x y. m *ℤ pos x +ℤ n *ℤ pos y) (omega (arith, ap (λ x. b * x) e)) (omega (arith, ap (λ x. a * x) f))
    ∙ sym (spread_left m n b a l)

pub abs-add : (m n : ℤ) → unsigned_abs (m +ℤ n) ≤ unsigned_abs m + unsigned_abs n
abs-add m n = omega (arith, ints)

pub sum_bound : (m n : ℤ) (s t : ℕ) → unsigned_abs (m *ℤ pos s +ℤ n *ℤ pos t) ≤ unsigned_abs m * s + unsigned_abs n * t
sum_bound m n s t = let h = abs-add (m *ℤ pos s) (n *ℤ pos t) in omega (arith, h, unsigned_abs-mul m (pos s), unsigned_abs-mul n (pos t))

module _ (p q : Fraction) (m n : ℤ) (x y : Sizes) (h : 0 < x.denominator) (i : 0 < y.denominator) (u : IsTop p m x) (v : IsTop q n y) where
  pub sum_top : IsTop (reduced (sum_of p q)) (m *ℤ pos (least_multiple x.denominator y.denominator / x.denominator) +ℤ n *ℤ pos (least_multiple x.denominator y.denominator / y.denominator)) (sum_sizes x y)
  sum_top =
      let l = least_multiple x.denominator y.denominator in
      let s = l / x.denominator in
      let t = l / y.denominator in
      let top : Fraction = record { numerator = m *ℤ pos s +ℤ n *ℤ pos t; denominator = l } in
      let first : Fraction = record { numerator = m; denominator = x.denominator } in
      let second : Fraction = record { numerator = n; denominator = y.denominator } in
      let positive : 0 < p.denominator * q.denominator = positive_product p.denominator q.denominator u.reduces.lowest.positive v.reduces.lowest.positive in
      let same : IsSameValue top (sum_of first second) = over_multiple m n x.denominator y.denominator s t l (left_multiple x.denominator y.denominator h i) (right_multiple x.denominator y.denominator h i) in
      record {
        reduces = Reduces-same (sum_of p q) top (reduced (sum_of p q)) positive
            (IsSameValue-trans top (sum_of first second) (sum_of p q) (positive_product x.denominator y.denominator h i) same (sum_of-same first p second q u.reduces.same v.reduces.same))
            (Reduces-reduced (sum_of p q) positive);
        bound =
            let b = sum_bound m n s t in
            let c = mul-le (unsigned_abs m) s x.weight s u.bound (le_refl s) in
            let d = mul-le (unsigned_abs n) t y.weight t v.bound (le_refl t) in
            omega (arith, b, c, d);
      }

  pub product_top : IsTop (reduced (product_of p q)) (m *ℤ n) (product_sizes x y)
  product_top =
      let top : Fraction = record { numerator = m *ℤ n; denominator = x.denominator * y.denominator } in
      let first : Fraction = record { numerator = m; denominator = x.denominator } in
      let second : Fraction = record { numerator = n; denominator = y.denominator } in
      let positive : 0 < p.denominator * q.denominator = positive_product p.denominator q.denominator u.reduces.lowest.positive v.reduces.lowest.positive in
      record {
        reduces = Reduces-same (product_of p q) top (reduced (product_of p q)) positive (product_of-same first p second q u.reduces.same v.reduces.same) (Reduces-reduced (product_of p q) positive);
        bound = rw (unsigned_abs-mul m n) (mul-le (unsigned_abs m) (unsigned_abs n) x.weight y.weight u.bound v.bound);
      }

-- negations

pub abs-neg : (m : ℤ) → unsigned_abs (neg_ℤ m) ≡ unsigned_abs m
abs-neg (pos zero) = refl
abs-neg (pos (suc n)) = refl
abs-neg (negsuc n) = refl

pub negated_top : (p : Fraction) (m : ℤ) (x : Sizes) → IsTop p m x → IsTop (reduced (negative_of p)) (neg_ℤ m) x
negated_top p m x u =
    let top : Fraction = record { numerator = neg_ℤ m; denominator = x.denominator } in
    let same : IsSameValue top (negative_of p) = neg_ℤ-*ℤ m (pos p.denominator) ∙ ap neg_ℤ u.reduces.same ∙ sym (neg_ℤ-*ℤ p.numerator (pos x.denominator)) in
    record {
      reduces = Reduces-same (negative_of p) top (reduced (negative_of p)) u.reduces.lowest.positive same (Reduces-reduced (negative_of p) u.reduces.lowest.positive);
      bound = rw (abs-neg m) u.bound;
    }

-- powers

power_of-same : (p q : Fraction) (c : ℕ) → IsSameValue p q → IsSameValue (power_of p c) (power_of q c)
power_of-same p q zero h = rw (pow-zero p.denominator, pow-zero q.denominator, int_pow-zero p.numerator, int_pow-zero q.numerator) refl
power_of-same p q (suc c) h =
    rw (pow-suc p.denominator c, pow-suc q.denominator c, int_pow-suc p.numerator c, int_pow-suc q.numerator c)
    (product_of-same (power_of p c) (power_of q c) p q (power_of-same p q c h) h)

pub power_top : (p : Fraction) (m : ℤ) (x : Sizes) (c : ℕ) → IsTop p m x → IsTop (reduced (power_of p c)) (int_pow m c) (power_sizes x c)
power_top p m x c u =
    let base : Fraction = record { numerator = m; denominator = x.denominator } in
    let positive : 0 < p.denominator ^ c = positive_power p.denominator c u.reduces.lowest.positive in
    record {
      reduces = Reduces-same (power_of p c) (power_of base c) (reduced (power_of p c)) positive (power_of-same base p c u.reduces.same) (Reduces-reduced (power_of p c) positive);
      bound = rw (unsigned_abs-int_pow m c) (pow-le-pow_left u.bound c);
    }

-- literals and inverses

pub whole_top : (n : ℕ) → IsTop (whole n) (pos n) (literal_sizes n)
whole_top n = record {
  reduces = Reduces-self (whole n) (record { positive = omega arith; coprime = (one-dvd n, one-dvd 1, λ d i j. j) });
  bound = le_refl n;
}

pub inverse_positive : (z : ℤ) (d : ℕ) → 0 < (over_numerator z d).denominator
inverse_positive (pos zero) d = omega arith
inverse_positive (pos (suc n)) d = omega arith
inverse_positive (negsuc n) d = omega arith

pub inverse_top : (p : Fraction) → IsTop (reduced (inverse_of p)) (inverse_of p).numerator (inverse_sizes p)
inverse_top p = record {
  reduces = Reduces-reduced (inverse_of p) (inverse_positive p.numerator p.denominator);
  bound = le_refl (unsigned_abs (inverse_of p).numerator);
}

-- any greatest common divisor serves

pub left_scale-by : (a b g : ℕ) → IsGcd a b g → 0 < a → 0 < b → b / g ≡ least_multiple a b / a
left_scale-by a b g k h i = ap (λ d. b / d) (same_from_IsGcd a b g (greatest_divisor a b) k (IsGcd-greatest_divisor a b)) ∙ sym (left_scale a b h i)

pub right_scale-by : (a b g : ℕ) → IsGcd a b g → 0 < a → 0 < b → a / g ≡ least_multiple a b / b
right_scale-by a b g k h i = ap (λ d. a / d) (same_from_IsGcd a b g (greatest_divisor a b) k (IsGcd-greatest_divisor a b)) ∙ sym (right_scale a b h i)

pub no_zero : (a b g : ℕ) → IsGcd a b g → g ≡ 0 → 0 < b → ⊥
no_zero a b g k e i = let p = gcd_positive a b g i k in omega (arith, p, e)
