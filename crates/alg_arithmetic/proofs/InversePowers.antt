-- The inverse of a power is the power of the inverse, with the same numbers.
use Rattle.std.proofs.Common.{◌≡◌, ℕ, zero, suc, ◌*◌, ◌<◌, ◌^◌, ℤ, pos, negsuc, neg_ℤ, ◌*ℤ◌, refl, ap, ap₂, sym, ◌∙◌, subst, arith}
use Rattle.std.specs.Prelude.{◌≢◌, unsigned_abs}
use Rattle.std.specs.Int.{int_pow}
use Rattle.std.proofs.Math.IntN.{*ℤ_comm}
use Rattle.std.proofs.lemmas.Int.{ints}
use Rattle.alg_num.specs.Fraction.{Fraction, IsSameValue, NumbersInRange}
use Rattle.alg_num.specs.LowestTerms.{IsInLowestTerms, Reduces}
use Rattle.alg_num.specs.Inverse.{IsInverse}
use Rattle.alg_num.specs.Power.{power_of}
use Rattle.alg_num.proofs.IntegerLaws.{*ℤ_swap_middle, cancel_ℤ, positive_product}
use Rattle.alg_num.proofs.LowestTermsLaws.{lowest_terms_equal}
use Rattle.alg_num.proofs.WholeNumbers.{whole_lowest}
use Rattle.alg_num.proofs.PowerLaws.{int_pow-zero, int_pow-suc, positive_power, unsigned_abs-int_pow}
use Rattle.alg_values.specs.Arithmetic.{whole_number, inverted, inverse_of}

int_pow-product : (a b : ℤ) (k : ℕ) → int_pow (a *ℤ b) k ≡ int_pow a k *ℤ int_pow b k
int_pow-product a b zero = int_pow-zero (a *ℤ b) ∙ sym (ap₂ (λ x y. x *ℤ y) (int_pow-zero a) (int_pow-zero b))
int_pow-product a b (suc k) =
    int_pow-suc (a *ℤ b) k ∙ ap (λ x. x *ℤ (a *ℤ b)) (int_pow-product a b k) ∙ *ℤ_swap_middle (int_pow a k) (int_pow b k) a b
    ∙ sym (ap₂ (λ x y. x *ℤ y) (int_pow-suc a k) (int_pow-suc b k))

-- fractions whose product is 1, and what is left of them in lowest terms
crossed : (p q w z : Fraction) → 0 < p.denominator → 0 < q.denominator → p.numerator *ℤ q.numerator ≡ pos (p.denominator * q.denominator) → IsSameValue p w → IsSameValue q z → w.numerator *ℤ z.numerator ≡ pos (w.denominator * z.denominator)
crossed p q w z h k e i j =
    cancel_ℤ (w.numerator *ℤ z.numerator) (pos (w.denominator * z.denominator)) (p.denominator * q.denominator) (positive_product p.denominator q.denominator h k)
    (*ℤ_swap_middle w.numerator z.numerator (pos p.denominator) (pos q.denominator)
    ∙ ap₂ (λ x y. x *ℤ y) (sym i) (sym j)
    ∙ *ℤ_swap_middle p.numerator (pos w.denominator) q.numerator (pos z.denominator)
    ∙ ap (λ x. x *ℤ pos (w.denominator * z.denominator)) e
    ∙ *ℤ_comm (pos (p.denominator * q.denominator)) (pos (w.denominator * z.denominator)))

zero_left : (d : ℕ) → pos 0 *ℤ pos d ≡ pos 0
zero_left d = ap pos (omega arith)

zero_right : (x : ℤ) → x *ℤ pos 0 ≡ pos 0
zero_right x = omega (arith, ints)

-- what has the value 0 is 0
left_zero : (p w : Fraction) → 0 < p.denominator → p.numerator ≡ pos 0 → IsSameValue p w → w.numerator ≡ pos 0
left_zero p w h e i = cancel_ℤ w.numerator (pos 0) p.denominator h (sym i ∙ ap (λ x. x *ℤ pos w.denominator) e ∙ zero_left w.denominator ∙ sym (zero_left p.denominator))

right_zero : (p w : Fraction) → 0 < w.denominator → w.numerator ≡ pos 0 → IsSameValue p w → p.numerator ≡ pos 0
right_zero p w h e i = cancel_ℤ p.numerator (pos 0) w.denominator h (i ∙ ap (λ x. x *ℤ pos p.denominator) e ∙ zero_left p.denominator ∙ sym (zero_left w.denominator))

zero_power : (a : ℤ) (k : ℕ) → a ≡ pos 0 → 0 < k → int_pow a k ≡ pos 0
zero_power a zero e h = absurd (omega (arith, h))
zero_power a (suc k) e h = int_pow-suc a k ∙ ap (λ x. int_pow a k *ℤ x) e ∙ zero_right (int_pow a k)

power_zero : (a : ℤ) (k : ℕ) → int_pow a k ≡ pos 0 → a ≡ pos 0
power_zero (pos zero) k e = refl
power_zero (pos (suc n)) k e = absurd (omega (arith, positive_power (suc n) k (omega arith), sym (unsigned_abs-int_pow (pos (suc n)) k) ∙ ap unsigned_abs e))
power_zero (negsuc n) k e = absurd (omega (arith, positive_power (suc n) k (omega arith), sym (unsigned_abs-int_pow (negsuc n) k) ∙ ap unsigned_abs e))

pub power_inverts : (p q w z : Fraction) (k : ℕ) → 0 < k → IsInLowestTerms p → IsInverse p q → Reduces (power_of p k) w → Reduces (power_of q k) z → IsInverse w z
power_inverts p q w z k above low i first second =
    let below : 0 < (power_of p k).denominator = positive_power p.denominator k low.positive in
    let over : 0 < (power_of q k).denominator = positive_power q.denominator k i.lowest.positive in
    record {
      lowest = second.lowest;
      at_zero = λ e.
          let raised : int_pow p.numerator k ≡ pos 0 = right_zero (power_of p k) w first.lowest.positive e first.same in
          let base : p.numerator ≡ pos 0 = power_zero p.numerator k raised in
          left_zero (power_of q k) z over (zero_power q.numerator k (i.at_zero base) above) second.same;
      elsewhere = λ n.
          let base : p.numerator ≢ pos 0 = λ e. n (left_zero (power_of p k) w below (zero_power p.numerator k e above) first.same) in
          let whole : p.numerator *ℤ q.numerator ≡ pos (p.denominator * q.denominator) = i.elsewhere base in
          let powers : int_pow p.numerator k *ℤ int_pow q.numerator k ≡ pos (p.denominator ^ k * q.denominator ^ k) =
          sym (int_pow-product p.numerator q.numerator k) ∙ ap (λ x. int_pow x k) whole ∙ int_pow-product (pos p.denominator) (pos q.denominator) k in
          crossed (power_of p k) (power_of q k) w z below over powers first.same second.same;
    }

abbrev fraction : ℤ → ℕ → Fraction
fraction z d = record { numerator = z; denominator = d }

size-neg : (d : ℕ) → unsigned_abs (neg_ℤ (pos d)) ≡ d
size-neg zero = refl
size-neg (suc d) = refl

ranged_over : (z : ℤ) (d n : ℕ) → IsInLowestTerms (fraction z d) → NumbersInRange (power_of (inverted z d) n) → NumbersInRange (power_of (fraction z d) n)
ranged_over (pos zero) d n low r =
    let same : fraction (pos zero) d ≡ whole_number (pos 0) = lowest_terms_equal (fraction (pos zero) d) (whole_number (pos 0)) low (whole_lowest (pos 0)) (omega (arith, ints)) in
    let P : Fraction → Type 0 = λ x. NumbersInRange (power_of x n) in
    subst P (sym same) r
ranged_over (pos (suc a)) d n low r = let P : ℕ → Type 0 = λ m. m < 2 ^ 127 in record {
  top = subst P (sym (unsigned_abs-int_pow (pos (suc a)) n)) r.bottom;
  bottom = subst P (unsigned_abs-int_pow (pos d) n) r.top;
}
ranged_over (negsuc a) d n low r = let P : ℕ → Type 0 = λ m. m < 2 ^ 127 in record {
  top = subst P (sym (unsigned_abs-int_pow (negsuc a) n)) r.bottom;
  bottom = subst P (unsigned_abs-int_pow (neg_ℤ (pos d)) n ∙ ap (λ m. m ^ n) (size-neg d)) r.top;
}

pub inverse_power_ranged : (p : Fraction) (n : ℕ) → IsInLowestTerms p → NumbersInRange (power_of (inverse_of p) n) → NumbersInRange (power_of p n)
inverse_power_ranged p n low r = ranged_over p.numerator p.denominator n low r
