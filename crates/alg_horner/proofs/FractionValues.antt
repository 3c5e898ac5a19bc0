-- The ring's operations on fractions in lowest terms.
use Rattle.std.proofs.Common.{◌≡◌, ℕ, suc, zero, ◌+◌, ◌*◌, ◌/◌, ◌<◌, ◌≤◌, ◌^◌, ℤ, pos, ◌+ℤ◌, ◌*ℤ◌, refl, sym, ap, subst, ◌∙◌, arith}
use Rattle.std.specs.Prelude.{unsigned_abs}
use Rattle.std.specs.Int.{IsGcd, ◌∣◌}
use Rattle.std.proofs.lemmas.Int.{ints, unsigned_abs-mul}
use Rattle.std.proofs.Math.Nat.{div-mul_cancel, mul-div_cancel', dvd-mul_left, dvd-mul_right, mul-dvd-mul_left, dvd_of_mul-dvd-mul_right}
use Rattle.alg_num.specs.Fraction.{Fraction, IsSameValue, NumbersInRange}
use Rattle.alg_num.specs.LowestTerms.{IsInLowestTerms, Reduces, LowestInRange}
use Rattle.alg_num.specs.Sum.{sum_of}
use Rattle.alg_num.specs.LeastSum.{IsLeastCommonMultiple, numerator_over, LeastSumInRange}
use Rattle.alg_num.specs.Product.{product_of}
use Rattle.alg_num.specs.Negative.{negative_of}
use Rattle.alg_num.specs.Reduced.{greatest_divisor}
use Rattle.alg_num.proofs.ReducedLaws.{IsGcd-greatest_divisor}
use Rattle.alg_num.proofs.IntegerLaws.{positive_product, positive_factor, cancel_ℕ}
use Rattle.alg_num.proofs.CoprimeLaws.{gcd_positive, coprime_quotients, divides_other}
use Rattle.alg_num.proofs.LowestTermsLaws.{lowest_terms_equal, IsSameValue-sym, IsSameValue-trans}
use Rattle.alg_num.proofs.WholeNumbers.{negative_lowest}
use Rattle.alg_sums.specs.Ratio.{Ratio, fraction, lowest, ratio_of, ratio_equal, value, plus, times, plus-value, times-value}
use Rattle.alg_sums.specs.RatioRing.{minus, whole_number}
use Rattle.alg_sums.specs.Rational.{rational}
use Rattle.alg_sums.specs.Size.{size_of, IsScaled}
use Rattle.alg_sums.specs.RatioSizes.{over_of_value}
use Rattle.alg_sums.proofs.Sizes.{small_whole, is_scaled, scaled_size}
use Rattle.alg_horner.specs.FractionMeaning.{ratio_over, ratio_at, above_zero}
use Rattle.alg_horner.specs.Facts.{CanAdd, CanMultiply}

back_over : (n : ℤ) (d : ℕ) → IsInLowestTerms (record { numerator = n; denominator = d }) → fraction (ratio_over n d) ≡ record { numerator = n; denominator = d }
back_over n zero h = absurd (omega (arith, h.positive))
back_over n (suc d) h =
    let p : Fraction = record { numerator = n; denominator = suc d } in
    lowest_terms_equal (fraction (ratio_of p (above_zero d))) p (lowest (ratio_of p (above_zero d))) h (value p (above_zero d))

-- a fraction in lowest terms is read back
pub back : (p : Fraction) → IsInLowestTerms p → fraction (ratio_at p) ≡ p
back p h = back_over p.numerator p.denominator h

pub fraction_is : (p q : Fraction) → IsInLowestTerms p → IsInLowestTerms q → ratio_at p ≡ ratio_at q → p ≡ q
fraction_is p q h i e = sym (back p h) ∙ ap fraction e ∙ back q i

pub whole_at : (z : ℤ) → ratio_at (record { numerator = z; denominator = 1 }) ≡ whole_number z
whole_at z =
    let p : Fraction = record { numerator = z; denominator = 1 } in
    ratio_equal (ratio_of p (above_zero 0)) (whole_number z) (value p (above_zero 0))

-- ---- sums
sum_value : (p q : Fraction) → IsInLowestTerms p → IsInLowestTerms q → IsSameValue (fraction (plus (ratio_at p) (ratio_at q))) (sum_of p q)
sum_value p q h i =
    let a = ratio_at p in
    let b = ratio_at q in
    subst (λ (x : Fraction). IsSameValue (fraction (plus a b)) (sum_of p x)) (back q i)
    (subst (λ (x : Fraction). IsSameValue (fraction (plus a b)) (sum_of x (fraction b))) (back p h) (plus-value a b))

pub sum_at : (p q s : Fraction) → IsInLowestTerms p → IsInLowestTerms q → Reduces (sum_of p q) s → ratio_at s ≡ rational.plus (ratio_at p) (ratio_at q)
unfolding rational
sum_at p q s h i r =
    let x : Fraction = fraction (plus (ratio_at p) (ratio_at q)) in
    let w : IsSameValue x s = IsSameValue-trans x (sum_of p q) s (positive_product p.denominator q.denominator h.positive i.positive) (sum_value p q h i) r.same in
    ratio_equal (ratio_at s) (plus (ratio_at p) (ratio_at q)) (subst (λ (y : Fraction). IsSameValue y x) (sym (back s r.lowest)) (IsSameValue-sym x s w))

both_ways : (b d g : ℕ) → IsGcd b d g → b * (d / g) ≡ b / g * d
both_ways b d g h =
    let x : b / g * g ≡ b = div-mul_cancel g h.0 in
    let y : d / g * g ≡ d = div-mul_cancel g h.1 in
    omega (arith, ap (λ n. n * (d / g)) x, ap (λ n. b / g * n) y)

least_multiple : (b d g : ℕ) → 0 < b → 0 < d → IsGcd b d g → IsLeastCommonMultiple b d (b * (d / g))
least_multiple b d g h i k =
    let g_positive : 0 < g = gcd_positive b d g i k in
    let x : b / g * g ≡ b = div-mul_cancel g k.0 in
    let y : d / g * g ≡ d = div-mul_cancel g k.1 in
    let P : ℕ → Type 0 = λ m. d ∣ m in
    record {
      first = dvd-mul_right b (d / g);
      second = subst P (sym (both_ways b d g k)) (dvd-mul_left d (b / g));
      least = λ n s t.
          let e : b * (n / b) ≡ n = mul-div_cancel' b s in
          let f : n ≡ (b / g * (n / b)) * g = omega (arith, e, ap (λ m. m * (n / b)) x) in
          let Q : ℕ → Type 0 = λ m. d / g * g ∣ m in
          let R : ℕ → Type 0 = λ m. m ∣ n in
          let S : ℕ → Type 0 = λ m. b * (d / g) ∣ m in
          let u : d / g ∣ b / g * (n / b) = dvd_of_mul-dvd-mul_right (d / g) g_positive (subst Q f (subst R (sym y) t)) in
          subst S e (mul-dvd-mul_left (d / g) {c = n / b} b (divides_other (b / g) (d / g) (n / b) (coprime_quotients b d g g_positive k) u));
    }

grown : (t x : ℕ) → 0 < t → x ≤ t * x
grown zero x h = absurd (omega arith)
grown (suc t) x h = omega arith

-- the numerator over the least common denominator is no greater than that over any common one
part_small : (n : ℤ) (x m d k s : ℕ) → 0 < x → 0 < d → x ∣ m → m ∣ d → d ≡ k * x → s ≡ k * unsigned_abs n → unsigned_abs (n *ℤ pos (m / x)) ≤ s
part_small n x m d k s h j i l e f =
    let u = m / x in
    let t = d / m in
    let a : u * x ≡ m = div-mul_cancel x i in
    let b : t * m ≡ d = div-mul_cancel m l in
    let o : 0 < t = positive_factor t m d j b in
    let c : k * x ≡ (t * u) * x = omega (arith, b, e, ap (λ z. t * z) a) in
    let g : k ≡ t * u = cancel_ℕ k (t * u) x h c in
    let y : unsigned_abs (n *ℤ pos u) ≡ unsigned_abs n * u = unsigned_abs-mul n (pos u) in
    let w : k * unsigned_abs n ≡ t * (unsigned_abs n * u) = ap (λ z. z * unsigned_abs n) g ∙ (let q : (t * u) * unsigned_abs n ≡ t * (unsigned_abs n * u) = omega arith in q) in
    omega (arith, y, f, w, grown t (unsigned_abs n * u) o)

abs_plus : (a b : ℤ) → unsigned_abs (a +ℤ b) ≤ unsigned_abs a + unsigned_abs b
abs_plus a b = omega (arith, ints)

divisor : (d k x : ℕ) → d ≡ k * x → x ∣ d
divisor d k x e = let P : ℕ → Type 0 = λ m. x ∣ m in subst P (sym e) (dvd-mul_left x k)

below : (x k d : ℕ) → 0 < d → d ≡ k * x → x ≤ d
below x k d h e = let o : 0 < k = positive_factor k x d h (sym e) in omega (arith, e, grown k x o)

-- the numbers of a sum over some common denominator
pub fits_by : (p q : Fraction) (d k l s t : ℕ) → IsInLowestTerms p → IsInLowestTerms q → 0 < d → d ≤ 2 ^ 126 → d ≡ k * p.denominator → d ≡ l * q.denominator → s ≡ k * unsigned_abs p.numerator → t ≡ l * unsigned_abs q.numerator → s + t ≤ 2 ^ 126 → LeastSumInRange p q
fits_by p q d k l s t h i o b e f u v w =
    let g = greatest_divisor p.denominator q.denominator in
    let m = p.denominator * (q.denominator / g) in
    let lcm = least_multiple p.denominator q.denominator g h.positive i.positive (IsGcd-greatest_divisor p.denominator q.denominator) in
    let n : m ∣ d = lcm.least d (divisor d k p.denominator e) (divisor d l q.denominator f) in
    let c : d / m * m ≡ d = div-mul_cancel m n in
    let small : m ≤ d = below m (d / m) d o (sym c) in
    let x : unsigned_abs (numerator_over m p) ≤ s = part_small p.numerator p.denominator m d k s h.positive o lcm.first n e u in
    let y : unsigned_abs (numerator_over m q) ≤ t = part_small q.numerator q.denominator m d l t i.positive o lcm.second n f v in
    let z : unsigned_abs (numerator_over m p +ℤ numerator_over m q) ≤ unsigned_abs (numerator_over m p) + unsigned_abs (numerator_over m q) = abs_plus (numerator_over m p) (numerator_over m q) in
    record {
      multiple = m;
      least = lcm;
      bottom = omega (arith, small, b);
      left = omega (arith, x, w);
      right = omega (arith, y, w);
      total = omega (arith, x, y, z, w);
    }

bottom_at : (p : Fraction) → IsInLowestTerms p → rational.bottom (ratio_at p) ≡ p.denominator
unfolding rational
bottom_at p h = ap (λ (x : Fraction). x.denominator) (back p h)

top_at : (p : Fraction) → IsInLowestTerms p → rational.top (ratio_at p) ≡ unsigned_abs p.numerator
unfolding rational
top_at p h = ap (λ (x : Fraction). unsigned_abs x.numerator) (back p h)

pub sum_fits : (p q : Fraction) → IsInLowestTerms p → IsInLowestTerms q → CanAdd rational (ratio_at p) (ratio_at q) → LeastSumInRange p q
sum_fits p q h i c =
    let d = c.denominator in
    let a = ratio_at p in
    let b = ratio_at q in
    let x : IsScaled rational d a (size_of rational d a) = is_scaled rational d a (small_whole rational d a (omega (arith, c.small))) in
    let y : IsScaled rational d b (size_of rational d b) = is_scaled rational d b (small_whole rational d b (omega (arith, c.small))) in
    fits_by p q d x.by y.by (size_of rational d a) (size_of rational d b) h i c.positive c.bounded
    (x.over ∙ ap (λ z. x.by * z) (bottom_at p h))
    (y.over ∙ ap (λ z. y.by * z) (bottom_at q i))
    (x.size ∙ ap (λ z. x.by * z) (top_at p h))
    (y.size ∙ ap (λ z. y.by * z) (top_at q i))
    c.small

-- ---- products
product_value : (p q : Fraction) → IsInLowestTerms p → IsInLowestTerms q → IsSameValue (fraction (times (ratio_at p) (ratio_at q))) (product_of p q)
product_value p q h i =
    let a = ratio_at p in
    let b = ratio_at q in
    subst (λ (x : Fraction). IsSameValue (fraction (times a b)) (product_of p x)) (back q i)
    (subst (λ (x : Fraction). IsSameValue (fraction (times a b)) (product_of x (fraction b))) (back p h) (times-value a b))

pub product_at : (p q s : Fraction) → IsInLowestTerms p → IsInLowestTerms q → Reduces (product_of p q) s → ratio_at s ≡ rational.times (ratio_at p) (ratio_at q)
unfolding rational
product_at p q s h i r =
    let x : Fraction = fraction (times (ratio_at p) (ratio_at q)) in
    let w : IsSameValue x s = IsSameValue-trans x (product_of p q) s (positive_product p.denominator q.denominator h.positive i.positive) (product_value p q h i) r.same in
    ratio_equal (ratio_at s) (times (ratio_at p) (ratio_at q)) (subst (λ (y : Fraction). IsSameValue y x) (sym (back s r.lowest)) (IsSameValue-sym x s w))

small_numbers : (x : Ratio) (d n : ℕ) → 0 < d → d ≤ 2 ^ 126 → IsScaled rational d x n → n ≤ 2 ^ 126 → NumbersInRange (fraction x)
unfolding rational
small_numbers x d n h b s l =
    let o : 0 < s.by = positive_factor s.by (suc x.under) d h (sym s.over) in
    let y : unsigned_abs x.top ≤ s.by * unsigned_abs x.top = grown s.by (unsigned_abs x.top) o in
    let z : suc x.under ≤ d = below (suc x.under) s.by d h s.over in
    record { top = omega (arith, y, s.size, l); bottom = omega (arith, z, b) }

pub product_fits : (p q : Fraction) → IsInLowestTerms p → IsInLowestTerms q → CanMultiply rational (ratio_at p) (ratio_at q) → LowestInRange (product_of p q)
unfolding rational
product_fits p q h i c =
    let x = times (ratio_at p) (ratio_at q) in
    let d = c.denominator in
    record {
      lowest = fraction x;
      reduces = record { lowest = lowest x; same = IsSameValue-sym (fraction x) (product_of p q) (product_value p q h i) };
      small = small_numbers x d (size_of rational d x) c.positive c.bounded (is_scaled rational d x (small_whole rational d x c.small)) c.small;
    }

-- ---- negations
pub negative_at : (p : Fraction) → IsInLowestTerms p → ratio_at (negative_of p) ≡ rational.minus (ratio_at p)
unfolding rational minus
negative_at p h =
    let e : fraction (ratio_at (negative_of p)) ≡ negative_of (fraction (ratio_at p)) = back (negative_of p) (negative_lowest p.numerator p.denominator h) ∙ ap negative_of (sym (back p h)) in
    ratio_equal (ratio_at (negative_of p)) (minus (ratio_at p)) (subst (λ (x : Fraction). IsSameValue (fraction (ratio_at (negative_of p))) x) e refl)

-- ---- sizes
pub size_over : (p s : Fraction) → 0 < p.denominator → Reduces p s → size_of rational p.denominator (ratio_at s) ≡ unsigned_abs p.numerator
unfolding rational
size_over p s h r =
    let w : IsSameValue (fraction (ratio_at s)) p = subst (λ (x : Fraction). IsSameValue x p) (sym (back s r.lowest)) (IsSameValue-sym p s r.same) in
    let o = over_of_value (ratio_at s) p.numerator p.denominator w in
    scaled_size rational p.denominator (ratio_at s) (unsigned_abs p.numerator) (record { by = o.by; over = o.over; size = sym o.size })
