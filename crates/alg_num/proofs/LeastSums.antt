-- The sum over the least common multiple of the denominators.
use Rattle.std.proofs.Common.{◌≡◌, ℕ, ◌*◌, ◌/◌, ◌<◌, ◌^◌, ℤ, pos, ◌+ℤ◌, ◌*ℤ◌, arith, ap, ap₂, sym, ◌∙◌, subst, to_z, of_z}
use Rattle.std.specs.Int.{IsGcd, ◌∣◌, w128}
use Rattle.std.proofs.lemmas.Nat.Gcd.{dvd_antisymm}
use Rattle.std.proofs.Math.Nat.{div-mul_cancel, mul-div_cancel', mul-div_cancel_left, mul-div_cancel, dvd-mul_left, dvd-mul_right, mul-dvd-mul_left, dvd_of_mul-dvd-mul_right}
use Rattle.alg_num.proofs.IntegerLaws.{positive_product, positive_factor, as_difference, differences, difference-same}
use Rattle.alg_num.proofs.CoprimeLaws.{gcd_positive, coprime_quotients, divides_other}
use Rattle.alg_num.specs.Range.{InRange}
use Rattle.alg_num.specs.Fraction.{Fraction}
use Rattle.alg_num.specs.LowestTerms.{IsInLowestTerms, Reduces}
use Rattle.alg_num.proofs.LowestTermsLaws.{Reduces-same}
use Rattle.alg_num.specs.Sum.{sum_of, ScaledSumInRange}
use Rattle.alg_num.proofs.Reductions.{cast_back}
use Rattle.alg_num.specs.LeastSum.{IsLeastCommonMultiple, numerator_over, LeastSumInRange}

unique_multiple : (a b m n : ℕ) → IsLeastCommonMultiple a b m → IsLeastCommonMultiple a b n → m ≡ n
unique_multiple a b m n h i = dvd_antisymm (h.least n i.first i.second) (i.least m h.first h.second)

-- the two ways to write it
both_ways : (b d g : ℕ) → IsGcd b d g → b * (d / g) ≡ b / g * d
both_ways b d g h =
    let x : b / g * g ≡ b = div-mul_cancel g h.0 in
    let y : d / g * g ≡ d = div-mul_cancel g h.1 in
    omega (arith, ap (λ n. n * (d / g)) x, ap (λ n. b / g * n) y)

least_multiple : (b d g : ℕ) → 0 < b → 0 < d → IsGcd b d g → IsLeastCommonMultiple b d (b * (d / g))
least_multiple b d g h i k =
    let g_positive : 0 < g = gcd_positive b d g i k in
    let x : b / g * g ≡ b = div-mul_cancel g k.0 in
    let y : d / g * g ≡ d = div-mul_cancel g k.1 in
    let P : ℕ → Type 0 = λ m. d ∣ m in
    record {
      first = dvd-mul_right b (d / g);
      second = subst P (sym (both_ways b d g k)) (dvd-mul_left d (b / g));
      least = λ n s t.
          let e : b * (n / b) ≡ n = mul-div_cancel' b s in
          let f : n ≡ (b / g * (n / b)) * g = omega (arith, e, ap (λ m. m * (n / b)) x) in
          let Q : ℕ → Type 0 = λ m. d / g * g ∣ m in
          let R : ℕ → Type 0 = λ m. m ∣ n in
          let S : ℕ → Type 0 = λ m. b * (d / g) ∣ m in
          let u : d / g ∣ b / g * (n / b) = dvd_of_mul-dvd-mul_right (d / g) g_positive (subst Q f (subst R (sym y) t)) in
          subst S e (mul-dvd-mul_left (d / g) {c = n / b} b (divides_other (b / g) (d / g) (n / b) (coprime_quotients b d g g_positive k) u));
    }

-- both numerators over the least common multiple
left_over : (p q : Fraction) (g : ℕ) → 0 < p.denominator → numerator_over (p.denominator * (q.denominator / g)) p ≡ p.numerator *ℤ pos (q.denominator / g)
left_over p q g h = ap (λ n. p.numerator *ℤ pos n) (mul-div_cancel_left (q.denominator / g) h)

right_over : (p q : Fraction) (g : ℕ) → 0 < q.denominator → IsGcd p.denominator q.denominator g → numerator_over (p.denominator * (q.denominator / g)) q ≡ q.numerator *ℤ pos (p.denominator / g)
right_over p q g h i =
    ap (λ n. q.numerator *ℤ pos n)
    (ap (λ m. m / q.denominator) (both_ways p.denominator q.denominator g i) ∙ mul-div_cancel (p.denominator / g) h)

-- the numbers that the sum works with are in range
pub record PartsInRange (p q : Fraction) (g : ℕ) : Type 0 where
  pub sum : ScaledSumInRange p.numerator (q.denominator / g) q.numerator (p.denominator / g)
  pub bottom : p.denominator * (q.denominator / g) < 2 ^ 127

pub parts_of_least : (p q : Fraction) (g : ℕ) → 0 < p.denominator → 0 < q.denominator → IsGcd p.denominator q.denominator g → LeastSumInRange p q → PartsInRange p q g
parts_of_least p q g h i k w =
    let e : w.multiple ≡ p.denominator * (q.denominator / g) = unique_multiple p.denominator q.denominator w.multiple (p.denominator * (q.denominator / g)) w.least (least_multiple p.denominator q.denominator g h i k) in
    let left : numerator_over w.multiple p ≡ p.numerator *ℤ pos (q.denominator / g) = ap (λ m. numerator_over m p) e ∙ left_over p q g h in
    let right : numerator_over w.multiple q ≡ q.numerator *ℤ pos (p.denominator / g) = ap (λ m. numerator_over m q) e ∙ right_over p q g i k in
    let P : ℤ → Type 0 = λ z. InRange z in
    let Q : ℕ → Type 0 = λ m. m < 2 ^ 127 in
    record {
      sum = record {
        left = subst P left w.left;
        right = subst P right w.right;
        total = subst P (ap₂ (λ a b. a +ℤ b) left right) w.total;
      };
      bottom = subst Q e w.bottom;
    }

pub least_of_parts : (p q : Fraction) (g : ℕ) → 0 < p.denominator → 0 < q.denominator → IsGcd p.denominator q.denominator g → PartsInRange p q g → LeastSumInRange p q
least_of_parts p q g h i k w =
    let left = left_over p q g h in
    let right = right_over p q g i k in
    let P : ℤ → Type 0 = λ z. InRange z in
    record {
      multiple = p.denominator * (q.denominator / g);
      least = least_multiple p.denominator q.denominator g h i k;
      bottom = w.bottom;
      left = subst P (sym left) w.sum.left;
      right = subst P (sym right) w.sum.right;
      total = subst P (sym (ap₂ (λ a b. a +ℤ b) left right)) w.sum.total;
    }

expanded : (u v : ℤ) (k m g : ℕ) → (u *ℤ pos (m * g) +ℤ v *ℤ pos (k * g)) *ℤ pos (k * g * m) ≡ (u *ℤ pos m +ℤ v *ℤ pos k) *ℤ pos (k * g * (m * g))
expanded u v k m g = rw (as_difference u, as_difference v) (simp differences (difference-same _ _ _ _ (omega arith)))

-- the sum over the least common multiple has the value of the sum
same_sum : (u v : ℤ) (b d k m g : ℕ) → k * g ≡ b → m * g ≡ d → (u *ℤ pos d +ℤ v *ℤ pos b) *ℤ pos (b * m) ≡ (u *ℤ pos m +ℤ v *ℤ pos k) *ℤ pos (b * d)
same_sum u v b d k m g e f = rw (← e, ← f) (expanded u v k m g)

pub multiple_positive : (b d g : ℕ) → 0 < b → 0 < d → IsGcd b d g → 0 < b * (d / g)
multiple_positive b d g h i k = positive_product b (d / g) h (positive_factor (d / g) g d i (div-mul_cancel g k.1))

-- what is left of the sum over the least common multiple in lowest terms
pub least_sum : (p q x : Fraction) (g : ℕ) (total : ℤ) (den : ℕ) → IsInLowestTerms p → IsInLowestTerms q → IsGcd p.denominator q.denominator g →
    ScaledSumInRange p.numerator (q.denominator / g) q.numerator (p.denominator / g) →
    total ≡ p.numerator *ℤ pos (q.denominator / g) +ℤ q.numerator *ℤ pos (p.denominator / g) →
    p.denominator * (q.denominator / g) < 2 ^ 127 → den ≡ p.denominator * (q.denominator / g) →
    Reduces (record { numerator = to_z w128 (of_z w128 total); denominator = den }) x →
    LeastSumInRange p q × Reduces (sum_of p q) x
least_sum p q x g total den h i k sum e bottom f r =
    let least : Fraction = record { numerator = p.numerator *ℤ pos (q.denominator / g) +ℤ q.numerator *ℤ pos (p.denominator / g); denominator = p.denominator * (q.denominator / g) } in
    let back : to_z w128 (of_z w128 total) ≡ least.numerator = cast_back total (subst InRange (sym e) sum.total) ∙ e in
    let over : record { numerator = to_z w128 (of_z w128 total); denominator = den } ≡ least = ap₂ (λ a b. record { numerator = a; denominator = b }) back f in
    let P : Fraction → Type 0 = λ y. Reduces y x in (
      least_of_parts p q g h.positive i.positive k (record { sum = sum; bottom = bottom }),
      Reduces-same least (sum_of p q) x (multiple_positive p.denominator q.denominator g h.positive i.positive k)
          (same_sum p.numerator q.numerator p.denominator q.denominator (p.denominator / g) (q.denominator / g) g (div-mul_cancel g k.0) (div-mul_cancel g k.1))
          (subst P over r),
    )
