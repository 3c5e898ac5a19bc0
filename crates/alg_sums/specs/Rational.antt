-- Fractions in lowest terms as coefficients.
use Rattle.std.proofs.Common.{◌≡◌, ℕ, zero, suc, ◌*◌, ◌<◌, ℤ, pos, negsuc, neg_ℤ, ◌+ℤ◌, ◌*ℤ◌, ◌≤ℤ◌, Bool, true, false, cond, arith, refl, ap, sym, subst, ◌∙◌}
use Rattle.std.specs.Prelude.{unsigned_abs}
use Rattle.std.specs.Int.{IsGcd}
use Rattle.std.proofs.lemmas.Int.{ints}
use Rattle.alg_num.proofs.IntegerLaws.{as_difference, differences, difference-same}
use Rattle.alg_num.specs.Fraction.{Fraction, IsSameValue}
use Rattle.alg_num.proofs.LowestTermsLaws.{IsSameValue-trans}
use Rattle.alg_num.specs.Sum.{sum_of}
use Rattle.alg_num.specs.Product.{product_of}
use Rattle.alg_sums.specs.Ratio.{Ratio, fraction, are_coprime, coprime_of, lowest, ratio_equal, plus, times, plus-value, times-value, product_positive}
use Rattle.alg_sums.specs.RatioRing.{nil, one, minus, abs_minus, one_nil, is_nil, nil_is, is_nil-nil, whole_number, whole_zero, whole_one, whole_plus, whole_times}
use Rattle.alg_sums.specs.Ratio as ratio
use Rattle.alg_sums.specs.RatioRing as ring
use Rattle.alg_sums.specs.RatioSizes.{scaled_plus, scaled_times}
use Rattle.alg_sums.specs.Inverse.{over_numerator, inverse_of}
use Rattle.alg_sums.specs.Coefficients.{Coefficients}

-- ---- the inverse: the two numbers change places, and the sign stays above
turned_gcd : (a b : ℕ) → IsGcd a b 1 → IsGcd b a 1
turned_gcd a b h = (h.1, h.0, λ e p q. h.2 e q p)

turned_coprime : (z w : ℤ) (n : ℕ) (d : ℕ) → unsigned_abs z ≡ suc n → unsigned_abs w ≡ suc d → are_coprime z (suc d) ≡ true → are_coprime w (suc n) ≡ true
turned_coprime z w n d e f c =
    let x : Ratio = record { top = z; under = d; coprime = c } in
    coprime_of w (suc n) (record { positive = omega arith; coprime = subst (λ m. IsGcd m (suc n) 1) (sym f) (subst (λ m. IsGcd (suc d) m 1) e (turned_gcd (unsigned_abs z) (suc d) (lowest x).coprime)) })

inverse_by : (z : ℤ) (d : ℕ) → are_coprime z (suc d) ≡ true → Ratio
inverse_by (pos zero) d c = nil
inverse_by (pos (suc n)) d c = record { top = pos (suc d); under = n; coprime = turned_coprime (pos (suc n)) (pos (suc d)) n d refl refl c }
inverse_by (negsuc n) d c = record { top = negsuc d; under = n; coprime = turned_coprime (negsuc n) (negsuc d) n d refl refl c }

pub inverse : Ratio → Ratio
inverse a = inverse_by a.top a.under a.coprime

turned : (z : ℤ) (d : ℕ) (c : are_coprime z (suc d) ≡ true) → fraction (inverse_by z d c) ≡ over_numerator z (suc d)
unfolding inverse_by nil
turned (pos zero) d c = refl
turned (pos (suc n)) d c = refl
turned (negsuc n) d c = refl

pub fraction-inverse : (a : Ratio) → fraction (inverse a) ≡ inverse_of (fraction a)
unfolding inverse
fraction-inverse a = turned a.top a.under a.coprime

abbrev pub number : ℕ → Ratio
number n = whole_number (pos n)

abbrev pub negative : ℤ → Bool
negative (pos n) = false
negative (negsuc n) = true

inverse_number : (d : ℕ) → fraction (inverse (number (suc d))) ≡ record { numerator = pos 1; denominator = suc d }
unfolding inverse inverse_by
inverse_number d = refl

pub inverse_one : inverse one ≡ one
unfolding inverse inverse_by one
inverse_one = ratio_equal (inverse one) one refl

-- ---- an element is its numerator over its denominator
pub over : ℕ → ℕ → Ratio
over n d = times (number n) (inverse (number (suc d)))

over_value : (n d : ℕ) → IsSameValue (fraction (over n d)) (record { numerator = pos n; denominator = suc d })
unfolding over
over_value n d =
    IsSameValue-trans (fraction (times (number n) (inverse (number (suc d))))) (product_of (fraction (number n)) (fraction (inverse (number (suc d))))) (record { numerator = pos n; denominator = suc d }) (product_positive 0 (inverse (number (suc d))).under)
    (times-value (number n) (inverse (number (suc d))))
    (subst (λ p. IsSameValue (product_of (fraction (number n)) p) (record { numerator = pos n; denominator = suc d })) (sym (inverse_number d)) (let e : (pos n *ℤ pos 1) *ℤ pos (suc d) ≡ pos n *ℤ pos (1 * suc d) = omega (arith, ints) in e))

signed_top : (z : ℤ) → cond (negative z) (neg_ℤ (pos (unsigned_abs z))) (pos (unsigned_abs z)) ≡ z
signed_top (pos n) = refl
signed_top (negsuc n) = refl

neg_product : (a b : ℤ) → neg_ℤ a *ℤ b ≡ neg_ℤ (a *ℤ b)
neg_product a b = rw (as_difference a, as_difference b) (simp differences (difference-same _ _ _ _ (omega arith)))

minus_value : (x : Ratio) (n d : ℕ) → IsSameValue (fraction x) (record { numerator = pos n; denominator = suc d }) → IsSameValue (fraction (minus x)) (record { numerator = neg_ℤ (pos n); denominator = suc d })
unfolding minus
minus_value x n d e = neg_product x.top (pos (suc d)) ∙ ap neg_ℤ e ∙ sym (neg_product (pos n) (pos (suc x.under)))

read_cases : (n d : ℕ) (b : Bool) → IsSameValue (fraction (cond b (minus (over n d)) (over n d))) (record { numerator = cond b (neg_ℤ (pos n)) (pos n); denominator = suc d })
read_cases n d true = minus_value (over n d) n d (over_value n d)
read_cases n d false = over_value n d

pub read : (a : Ratio) → cond (negative a.top) (minus (over (unsigned_abs a.top) a.under)) (over (unsigned_abs a.top) a.under) ≡ a
read a = ratio_equal _ a (subst (λ z. IsSameValue (fraction (cond (negative a.top) (minus (over (unsigned_abs a.top) a.under)) (over (unsigned_abs a.top) a.under))) (record { numerator = z; denominator = suc a.under })) (signed_top a.top) (read_cases (unsigned_abs a.top) a.under (negative a.top)))

-- ---- signs
pub not_negative : (z : ℤ) → pos 0 ≤ℤ z → negative z ≡ false
not_negative (pos n) h = refl
not_negative (negsuc n) h = absurd (omega (arith, ints, h))

pub at_least_zero : (z : ℤ) → negative z ≡ false → pos 0 ≤ℤ z
at_least_zero (pos n) e = omega (arith, ints)
at_least_zero (negsuc n) e = cc

sign_of_value : (x : Ratio) (p : Fraction) → IsSameValue (fraction x) p → 0 < p.denominator → pos 0 ≤ℤ p.numerator → negative x.top ≡ false
sign_of_value x p e h i =
    let d : ℕ = p.denominator in
    not_negative x.top (sign x.top (pos (suc x.under)) p.numerator d h e i (suc x.under) refl)
  where
    sign : (z w n : ℤ) (d : ℕ) → 0 < d → z *ℤ pos d ≡ n *ℤ w → pos 0 ≤ℤ n → (k : ℕ) → w ≡ pos k → pos 0 ≤ℤ z
    sign (pos m) w (pos n) d h e i k f = omega (arith, ints)
    sign (negsuc m) w (pos n) d h e i k f = absurd (let g : negsuc m *ℤ pos d ≡ pos n *ℤ pos k = e ∙ ap (λ y. pos n *ℤ y) f in omega (arith, ints, g))
    sign z w (negsuc n) d h e i k f = absurd (omega (arith, ints, i))

pub sums_sign : (x y : ℤ) (d e : ℕ) → pos 0 ≤ℤ x → pos 0 ≤ℤ y → pos 0 ≤ℤ (x *ℤ pos e +ℤ y *ℤ pos d)
sums_sign (pos x) (pos y) d e h i = omega (arith, ints)
sums_sign (pos x) (negsuc y) d e h i = absurd (omega (arith, ints, i))
sums_sign (negsuc x) y d e h i = absurd (omega (arith, ints, h))

pub products_sign : (x y : ℤ) → pos 0 ≤ℤ x → pos 0 ≤ℤ y → pos 0 ≤ℤ (x *ℤ y)
products_sign (pos x) (pos y) h i = omega (arith, ints)
products_sign (pos x) (negsuc y) h i = absurd (omega (arith, ints, i))
products_sign (negsuc x) y h i = absurd (omega (arith, ints, h))

pub positive_sum : (a b : Ratio) → negative a.top ≡ false → negative b.top ≡ false → negative (plus a b).top ≡ false
positive_sum a b e f = sign_of_value (plus a b) (sum_of (fraction a) (fraction b)) (plus-value a b) (product_positive a.under b.under) (sums_sign a.top b.top (suc a.under) (suc b.under) (at_least_zero a.top e) (at_least_zero b.top f))

pub positive_product : (a b : Ratio) → negative a.top ≡ false → negative b.top ≡ false → negative (times a b).top ≡ false
positive_product a b e f = sign_of_value (times a b) (product_of (fraction a) (fraction b)) (times-value a b) (product_positive a.under b.under) (products_sign a.top b.top (at_least_zero a.top e) (at_least_zero b.top f))

pub above : (n : ℕ) → 0 < suc n
above n = omega arith

pub top_minus : (a : Ratio) → unsigned_abs (minus a).top ≡ unsigned_abs a.top
unfolding minus
top_minus a = abs_minus a.top

pub bottom_minus : (a : Ratio) → suc (minus a).under ≡ suc a.under
unfolding minus
bottom_minus a = refl

-- the ring of fractions in lowest terms
unfoldable pub rational : Coefficients Ratio
unfolding over
rational = record {
  nil = nil;
  one = one;
  plus = plus;
  times = times;
  minus = minus;
  inverse = inverse;
  number = number;
  is_nil = is_nil;
  is_negative = λ a. negative a.top;
  top = λ a. unsigned_abs a.top;
  bottom = λ a. suc a.under;
  plus_assoc = ratio.plus_assoc;
  plus_comm = ratio.plus_comm;
  plus_nil = ring.plus_nil;
  plus_minus = ring.plus_minus;
  times_comm = ring.times_comm;
  times_assoc = ring.times_assoc;
  times_plus = ratio.times_plus;
  times_one = ring.times_one;
  one_nil = one_nil;
  is_nil-nil = is_nil-nil;
  nil_is = nil_is;
  number_zero = whole_zero;
  number_one = whole_one;
  number_plus = λ m n. whole_plus (pos m) (pos n);
  number_times = λ m n. whole_times (pos m) (pos n);
  inverse_one = inverse_one;
  read = read;
  bottom_positive = λ a. above a.under;
  top_number = λ n. refl;
  bottom_number = λ n. refl;
  top_minus = top_minus;
  bottom_minus = bottom_minus;
  scaled_plus = scaled_plus;
  scaled_times = scaled_times;
  positive_number = λ n. refl;
  positive_plus = positive_sum;
  positive_times = positive_product;
}
