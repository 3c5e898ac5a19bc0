-- The numbers that a sum over the least common multiple of the denominators works with.
use Rattle.std.proofs.Common.{◌≡◌, ℕ, ◌*◌, ◌/◌, ◌<◌, ◌^◌, ℤ, pos, ◌+ℤ◌, ◌*ℤ◌, arith, ap, ap₂, sym, ◌∙◌, subst}
use Rattle.std.specs.Int.{IsGcd, ◌∣◌}
use Rattle.std.proofs.Math.Nat.{div-mul_cancel, mul-div_cancel', mul-div_cancel_left, mul-div_cancel, dvd-mul_left, dvd-mul_right, mul-dvd-mul_left, dvd_of_mul-dvd-mul_right}
use Rattle.alg_num.proofs.CoprimeLaws.{gcd_positive, coprime_quotients, divides_other}
use Rattle.alg_num.specs.Range.{InRange}
use Rattle.alg_num.specs.Fraction.{Fraction}
use Rattle.alg_num.specs.Sum.{sum_of, ScaledSumInRange}
use Rattle.alg_num.specs.LeastSum.{IsLeastCommonMultiple, numerator_over, LeastSumInRange}

-- the two ways to write it
both_ways : (b d g : ℕ) → IsGcd b d g → b * (d / g) ≡ b / g * d
both_ways b d g h =
    let x : b / g * g ≡ b = div-mul_cancel g h.0 in
    let y : d / g * g ≡ d = div-mul_cancel g h.1 in
    omega (arith, ap (λ n. n * (d / g)) x, ap (λ n. b / g * n) y)

least_multiple : (b d g : ℕ) → 0 < b → 0 < d → IsGcd b d g → IsLeastCommonMultiple b d (b * (d / g))
least_multiple b d g h i k =
    let g_positive : 0 < g = gcd_positive b d g i k in
    let x : b / g * g ≡ b = div-mul_cancel g k.0 in
    let y : d / g * g ≡ d = div-mul_cancel g k.1 in
    let P : ℕ → Type 0 = λ m. d ∣ m in
    record {
      first = dvd-mul_right b (d / g);
      second = subst P (sym (both_ways b d g k)) (dvd-mul_left d (b / g));
      least = λ n s t.
          let e : b * (n / b) ≡ n = mul-div_cancel' b s in
          let f : n ≡ (b / g * (n / b)) * g = omega (arith, e, ap (λ m. m * (n / b)) x) in
          let Q : ℕ → Type 0 = λ m. d / g * g ∣ m in
          let R : ℕ → Type 0 = λ m. m ∣ n in
          let S : ℕ → Type 0 = λ m. b * (d / g) ∣ m in
          let u : d / g ∣ b / g * (n / b) = dvd_of_mul-dvd-mul_right (d / g) g_positive (subst Q f (subst R (sym y) t)) in
          subst S e (mul-dvd-mul_left (d / g) {c = n / b} b (divides_other (b / g) (d / g) (n / b) (coprime_quotients b d g g_positive k) u));
    }

-- both numerators over the least common multiple
left_over : (p q : Fraction) (g : ℕ) → 0 < p.denominator → numerator_over (p.denominator * (q.denominator / g)) p ≡ p.numerator *ℤ pos (q.denominator / g)
left_over p q g h = ap (λ n. p.numerator *ℤ pos n) (mul-div_cancel_left (q.denominator / g) h)

right_over : (p q : Fraction) (g : ℕ) → 0 < q.denominator → IsGcd p.denominator q.denominator g → numerator_over (p.denominator * (q.denominator / g)) q ≡ q.numerator *ℤ pos (p.denominator / g)
right_over p q g h i =
    ap (λ n. q.numerator *ℤ pos n)
    (ap (λ m. m / q.denominator) (both_ways p.denominator q.denominator g i) ∙ mul-div_cancel (p.denominator / g) h)

-- the numbers that the sum works with are in range
pub record PartsInRange (p q : Fraction) (g : ℕ) : Type 0 where
  pub sum : ScaledSumInRange p.numerator (q.denominator / g) q.numerator (p.denominator / g)
  pub bottom : p.denominator * (q.denominator / g) < 2 ^ 127

pub least_of_parts : (p q : Fraction) (g : ℕ) → 0 < p.denominator → 0 < q.denominator → IsGcd p.denominator q.denominator g → PartsInRange p q g → LeastSumInRange p q
least_of_parts p q g h i k w =
    let left = left_over p q g h in
    let right = right_over p q g i k in
    let P : ℤ → Type 0 = λ z. InRange z in
    record {
      multiple = p.denominator * (q.denominator / g);
      least = least_multiple p.denominator q.denominator g h i k;
      bottom = w.bottom;
      left = subst P (sym left) w.sum.left;
      right = subst P (sym right) w.sum.right;
      total = subst P (sym (ap₂ (λ a b. a +ℤ b) left right)) w.sum.total;
    }
