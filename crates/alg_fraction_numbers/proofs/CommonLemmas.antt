-- Two fractions and their sum over the least common multiple of the denominators.
use Rattle.std.proofs.Common.{◌≡◌, ℕ, ◌*◌, ◌/◌, ◌<◌, ◌^◌, ℤ, pos, ◌+ℤ◌, ◌*ℤ◌, arith, refl, ap, ap₂, sym, ◌∙◌, subst, to_z, of_z}
use Rattle.std.specs.Prelude.{unsigned_abs}
use Rattle.std.specs.Int.{IsGcd, ◌∣◌, w128}
use Rattle.std.proofs.lemmas.Int.{unsigned_abs-mul, to_z-of_z, fits_signed_from_abs}
use Rattle.std.proofs.lemmas.Nat.Gcd.{dvd_antisymm}
use Rattle.std.proofs.Math.Nat.{div-mul_cancel, mul-div_cancel', mul-div_cancel_left, mul-div_cancel, dvd-mul_left, dvd-mul_right, mul-dvd-mul_left, dvd_of_mul-dvd-mul_right}
use Rattle.alg_num.proofs.CoprimeLaws.{coprime_quotients, divides_other, gcd_positive}
use Rattle.alg_num.proofs.IntegerLaws.{as_difference, differences, difference-same, cancel_ℤ, positive_factor, positive_product}
use Rattle.alg_num.proofs.LowestTermsLaws.{Reduces-same}
use Rattle.alg_num.specs.Fraction.{Fraction, IsSameValue}
use Rattle.alg_num.specs.LeastSum.{IsLeastCommonMultiple, numerator_over, LeastSumInRange}
use Rattle.alg_num.specs.LowestTerms.{IsInLowestTerms, Reduces}
use Rattle.alg_num.specs.Range.{InRange}
use Rattle.alg_num.specs.Sum.{ScaledSumInRange, sum_of}
use Rattle.alg_fraction_numbers.specs.Common.{IsCommon}

-- a number in range is what is read back of it
pub back : (z : ℤ) → InRange z → to_z w128 (of_z w128 z) ≡ z
back z h = to_z-of_z w128 z (fits_signed_from_abs w128 z h)

-- the least common multiple

unique_multiple : (a b m n : ℕ) → IsLeastCommonMultiple a b m → IsLeastCommonMultiple a b n → m ≡ n
unique_multiple a b m n h i = dvd_antisymm (h.least n i.first i.second) (i.least m h.first h.second)

-- the two ways to write it
both_ways : (b d g : ℕ) → IsGcd b d g → b * (d / g) ≡ b / g * d
both_ways b d g h =
    let x : b / g * g ≡ b = div-mul_cancel g h.0 in
    let y : d / g * g ≡ d = div-mul_cancel g h.1 in
    omega (arith, ap (λ n. n * (d / g)) x, ap (λ n. b / g * n) y)

least_multiple : (b d g : ℕ) → 0 < b → 0 < d → IsGcd b d g → IsLeastCommonMultiple b d (b * (d / g))
least_multiple b d g h i k =
    let g_positive : 0 < g = gcd_positive b d g i k in
    let x : b / g * g ≡ b = div-mul_cancel g k.0 in
    let y : d / g * g ≡ d = div-mul_cancel g k.1 in
    let P : ℕ → Type 0 = λ m. d ∣ m in
    record {
      first = dvd-mul_right b (d / g);
      second = subst P (sym (both_ways b d g k)) (dvd-mul_left d (b / g));
      least = λ n s t.
          let e : b * (n / b) ≡ n = mul-div_cancel' b s in
          let f : n ≡ (b / g * (n / b)) * g = omega (arith, e, ap (λ m. m * (n / b)) x) in
          let Q : ℕ → Type 0 = λ m. d / g * g ∣ m in
          let R : ℕ → Type 0 = λ m. m ∣ n in
          let S : ℕ → Type 0 = λ m. b * (d / g) ∣ m in
          let u : d / g ∣ b / g * (n / b) = dvd_of_mul-dvd-mul_right (d / g) g_positive (subst Q f (subst R (sym y) t)) in
          subst S e (mul-dvd-mul_left (d / g) {c = n / b} b (divides_other (b / g) (d / g) (n / b) (coprime_quotients b d g g_positive k) u));
    }

-- both numerators over the least common multiple
left_over : (p q : Fraction) (g : ℕ) → 0 < p.denominator → numerator_over (p.denominator * (q.denominator / g)) p ≡ p.numerator *ℤ pos (q.denominator / g)
left_over p q g h = ap (λ n. p.numerator *ℤ pos n) (mul-div_cancel_left (q.denominator / g) h)

right_over : (p q : Fraction) (g : ℕ) → 0 < q.denominator → IsGcd p.denominator q.denominator g → numerator_over (p.denominator * (q.denominator / g)) q ≡ q.numerator *ℤ pos (p.denominator / g)
right_over p q g h i =
    ap (λ n. q.numerator *ℤ pos n)
    (ap (λ m. m / q.denominator) (both_ways p.denominator q.denominator g i) ∙ mul-div_cancel (p.denominator / g) h)

-- the numbers that the sum works with are in range
record PartsInRange (p q : Fraction) (g : ℕ) : Type 0 where
  sum : ScaledSumInRange p.numerator (q.denominator / g) q.numerator (p.denominator / g)
  bottom : p.denominator * (q.denominator / g) < 2 ^ 127

parts_of_least : (p q : Fraction) (g : ℕ) → 0 < p.denominator → 0 < q.denominator → IsGcd p.denominator q.denominator g → LeastSumInRange p q → PartsInRange p q g
parts_of_least p q g h i k w =
    let e : w.multiple ≡ p.denominator * (q.denominator / g) = unique_multiple p.denominator q.denominator w.multiple (p.denominator * (q.denominator / g)) w.least (least_multiple p.denominator q.denominator g h i k) in
    let left : numerator_over w.multiple p ≡ p.numerator *ℤ pos (q.denominator / g) = ap (λ m. numerator_over m p) e ∙ left_over p q g h in
    let right : numerator_over w.multiple q ≡ q.numerator *ℤ pos (p.denominator / g) = ap (λ m. numerator_over m q) e ∙ right_over p q g i k in
    let P : ℤ → Type 0 = λ z. InRange z in
    let Q : ℕ → Type 0 = λ m. m < 2 ^ 127 in
    record {
      sum = record {
        left = subst P left w.left;
        right = subst P right w.right;
        total = subst P (ap₂ (λ a b. a +ℤ b) left right) w.total;
      };
      bottom = subst Q e w.bottom;
    }

multiple_positive : (b d g : ℕ) → 0 < b → 0 < d → IsGcd b d g → 0 < b * (d / g)
multiple_positive b d g h i k = positive_product b (d / g) h (positive_factor (d / g) g d i (div-mul_cancel g k.1))

expanded : (u v : ℤ) (k m g : ℕ) → (u *ℤ pos m +ℤ v *ℤ pos k) *ℤ pos (k * g * (m * g)) ≡ (u *ℤ pos (m * g) +ℤ v *ℤ pos (k * g)) *ℤ pos (k * g * m)
expanded u v k m g = rw (as_difference u, as_difference v) (simp differences (difference-same _ _ _ _ (omega arith)))

-- the sum over the least common multiple has the value of the sum
same_sum : (u v : ℤ) (b d k m g : ℕ) → k * g ≡ b → m * g ≡ d → (u *ℤ pos m +ℤ v *ℤ pos k) *ℤ pos (b * d) ≡ (u *ℤ pos d +ℤ v *ℤ pos b) *ℤ pos (b * m)
same_sum u v b d k m g e f = rw (← e, ← f) (expanded u v k m g)

-- the denominator of a fraction in lowest terms divides those of the fractions with its value
pub denominator_divides : (p q : Fraction) → Reduces p q → q.denominator ∣ p.denominator
denominator_divides p q h =
    let e : unsigned_abs p.numerator * q.denominator ≡ unsigned_abs q.numerator * p.denominator =
    sym (unsigned_abs-mul p.numerator (pos q.denominator)) ∙ ap unsigned_abs h.same ∙ unsigned_abs-mul q.numerator (pos p.denominator) in
    let P : ℕ → Type 0 = λ x. q.denominator ∣ x in
    divides_other (unsigned_abs q.numerator) q.denominator p.denominator h.lowest.coprime
    (subst P e (dvd-mul_left q.denominator (unsigned_abs p.numerator)))

rotate : (z : ℤ) (d h : ℕ) → z *ℤ pos (d * h) ≡ (z *ℤ pos h) *ℤ pos d
rotate z d h = rw (as_difference z) (simp differences (difference-same _ _ _ _ (omega arith)))

-- the numerator over a multiple of the denominator
numerator_scaled : (p q : Fraction) (h : ℕ) → 0 < q.denominator → q.denominator * h ≡ p.denominator → IsSameValue p q → q.numerator *ℤ pos h ≡ p.numerator
numerator_scaled p q h l e s = cancel_ℤ (q.numerator *ℤ pos h) p.numerator q.denominator l (sym (rotate q.numerator q.denominator h) ∙ ap (λ m. q.numerator *ℤ pos m) e ∙ sym s)

-- what the numbers that are computed make
module _ (x y z : Fraction) (g : ℕ) (hx : IsInLowestTerms x) (hy : IsInLowestTerms y) (i : IsGcd x.denominator y.denominator g) (r : Reduces (sum_of x y) z) (w : LeastSumInRange x y) where
  parts : PartsInRange x y g
  parts = parts_of_least x y g hx.positive hy.positive i w

  abbrev over_multiple : Fraction
  over_multiple = record { numerator = x.numerator *ℤ pos (y.denominator / g) +ℤ y.numerator *ℤ pos (x.denominator / g); denominator = x.denominator * (y.denominator / g) }

  reduces : Reduces over_multiple z
  reduces = Reduces-same (sum_of x y) over_multiple z (positive_product x.denominator y.denominator hx.positive hy.positive) (same_sum x.numerator y.numerator x.denominator y.denominator (x.denominator / g) (y.denominator / g) g (div-mul_cancel g i.0) (div-mul_cancel g i.1)) r

  third_times : z.denominator * (over_multiple.denominator / z.denominator) ≡ over_multiple.denominator
  third_times = mul-div_cancel' z.denominator (denominator_divides over_multiple z reduces)

  is-common : (first second third multiple : ℕ) (left right total : ℤ) → first ≡ y.denominator / g → second ≡ x.denominator / g → multiple ≡ x.denominator * first → third ≡ multiple / z.denominator → left ≡ x.numerator *ℤ pos first → right ≡ y.numerator *ℤ pos second → total ≡ left +ℤ right
      → IsCommon x y z (record { first = first; second = second; third = third; multiple = multiple; left = left; right = right; total = total })
  is-common first second third multiple left right total e f m t l k w = rw (w, l, k, t, m, e, f) (record {
    first = refl;
    second =
        let p : x.denominator / g * g ≡ x.denominator = div-mul_cancel g i.0 in
        let q : y.denominator / g * g ≡ y.denominator = div-mul_cancel g i.1 in
        omega (arith, ap (λ n. n * (y.denominator / g)) p, ap (λ n. x.denominator / g * n) q);
    third = third_times;
    above = multiple_positive x.denominator y.denominator g hx.positive hy.positive i;
    small = parts.bottom;
    left = refl;
    right = refl;
    total = numerator_scaled over_multiple z (over_multiple.denominator / z.denominator) r.lowest.positive third_times reduces.same;
    adds = refl;
    left_small = parts.sum.left;
    right_small = parts.sum.right;
    total_small = parts.sum.total;
  })

-- the same, where the numbers come from calls
module _ (x y z : Fraction) (a b g : ℕ) (m n : ℤ) (ea : a ≡ x.denominator) (eb : b ≡ y.denominator) (em : m ≡ x.numerator) (en : n ≡ y.numerator) (hx : IsInLowestTerms x) (hy : IsInLowestTerms y) (i : IsGcd a b g) (r : Reduces (sum_of x y) z) (w : LeastSumInRange x y) where
  divisor : IsGcd x.denominator y.denominator g
  divisor = rw (← ea, ← eb) i

  its_parts : PartsInRange x y g
  its_parts = parts x y z g hx hy divisor r w

  pub divisor-above : 0 < g
  divisor-above = gcd_positive x.denominator y.denominator g hy.positive divisor

  pub multiple-fits : a * (b / g) < 2 ^ 127
  multiple-fits = rw (ea, eb) its_parts.bottom

  pub left-fits : InRange (m *ℤ pos (b / g))
  left-fits = rw (eb, em) its_parts.sum.left

  pub right-fits : InRange (n *ℤ pos (a / g))
  right-fits = rw (ea, en) its_parts.sum.right

  pub total-fits : (left right : ℤ) → left ≡ m *ℤ pos (b / g) → right ≡ n *ℤ pos (a / g) → InRange (left +ℤ right)
  total-fits left right l k = rw (l, k, ea, eb, em, en) its_parts.sum.total

  pub made-common : (d : ℕ) (left right total : ℤ) → d ≡ z.denominator → left ≡ m *ℤ pos (b / g) → right ≡ n *ℤ pos (a / g) → total ≡ left +ℤ right
      → IsCommon x y z (record { first = b / g; second = a / g; third = a * (b / g) / d; multiple = a * (b / g); left = left; right = right; total = total })
  made-common d left right total e l k t =
      is-common x y z g hx hy divisor r w (b / g) (a / g) (a * (b / g) / d) (a * (b / g)) left right total
      (ap (λ v. v / g) eb)
      (ap (λ v. v / g) ea)
      (ap (λ v. v * (b / g)) ea)
      (ap (λ v. a * (b / g) / v) e)
      (l ∙ ap (λ v. v *ℤ pos (b / g)) em)
      (k ∙ ap (λ v. v *ℤ pos (a / g)) en)
      t
