-- What the results of products, sums, inverses and powers are, from what is promised of them.
use Rattle.std.proofs.Common.{◌≡◌, ℕ, zero, suc, ◌*◌, ◌/◌, ◌<◌, ℤ, pos, negsuc, ◌+ℤ◌, ◌*ℤ◌, arith, refl, ap, ap₂, sym, ◌∙◌, subst, lit≤}
use Rattle.std.specs.Prelude.{unsigned_abs, neg_ℤ}
use Rattle.std.specs.Int.{IsGcd, ◌∣◌}
use Rattle.std.proofs.lemmas.Int.{ints, unsigned_abs-mul}
use Rattle.std.proofs.lemmas.Nat.Gcd.{IsGcd-swap, dvd_antisymm, dvd-zero, dvd_refl}
use Rattle.std.proofs.Math.Nat.{div-mul_cancel, dvd-mul_left, dvd-mul_right, one-dvd}
use Rattle.std.proofs.Math.IntN.{*ℤ_comm}
use Rattle.alg_num.proofs.CoprimeLaws.{coprime_divisors, coprime_quotients, coprime_product, divides_other, gcd_positive}
use Rattle.alg_num.proofs.IntegerLaws.{positive_factor, positive_product, neg_ℤ-*ℤ, *ℤ_swap_middle}
use Rattle.alg_num.proofs.LowestTermsLaws.{Reduces-unique, lowest_terms_equal, fraction_equal}
use Rattle.alg_num.proofs.WholeNumbers.{whole_fraction, whole_sum_reduces, whole_product_reduces}
use Rattle.alg_num.specs.Fraction.{Fraction}
use Rattle.alg_num.specs.Inverse.{IsInverse}
use Rattle.alg_num.specs.LowestTerms.{IsInLowestTerms, Reduces}
use Rattle.alg_num.specs.Product.{product_of}
use Rattle.alg_num.specs.Sum.{sum_of}
use Rattle.alg_fraction_numbers.specs.Products.{SizesMultiply, size_of}

-- whole numbers

pub whole-sum : (x y z : Fraction) → x.denominator ≡ 1 → y.denominator ≡ 1 → Reduces (sum_of x y) z → z ≡ whole_fraction (x.numerator +ℤ y.numerator)
whole-sum x y z d e r =
    let same : sum_of x y ≡ sum_of (whole_fraction x.numerator) (whole_fraction y.numerator) = ap₂ sum_of (fraction_equal x (whole_fraction x.numerator) refl d) (fraction_equal y (whole_fraction y.numerator) refl e) in
    let P : Fraction → Type 0 = λ w. Reduces w z in
    Reduces-unique (sum_of (whole_fraction x.numerator) (whole_fraction y.numerator)) z (whole_fraction (x.numerator +ℤ y.numerator)) (lit≤ tt) (subst P same r) (whole_sum_reduces x.numerator y.numerator)

pub whole-product : (x y z : Fraction) → x.denominator ≡ 1 → y.denominator ≡ 1 → Reduces (product_of x y) z → z ≡ whole_fraction (x.numerator *ℤ y.numerator)
whole-product x y z d e r =
    let same : product_of x y ≡ product_of (whole_fraction x.numerator) (whole_fraction y.numerator) = ap₂ product_of (fraction_equal x (whole_fraction x.numerator) refl d) (fraction_equal y (whole_fraction y.numerator) refl e) in
    let P : Fraction → Type 0 = λ w. Reduces w z in
    Reduces-unique (product_of (whole_fraction x.numerator) (whole_fraction y.numerator)) z (whole_fraction (x.numerator *ℤ y.numerator)) (lit≤ tt) (subst P same r) (whole_product_reduces x.numerator y.numerator)

-- 0 in lowest terms is whole
pub zero-whole : (d : ℕ) → IsInLowestTerms (record { numerator = pos 0; denominator = d }) → d ≡ 1
zero-whole d h = dvd_antisymm (h.coprime.2 d (dvd-zero d) (dvd_refl d)) (one-dvd d)

-- common factors taken out crosswise

-- the numbers of a fraction in lowest terms divide those of each fraction with its value
numerator_divides : (p q : Fraction) → Reduces p q → unsigned_abs q.numerator ∣ unsigned_abs p.numerator
numerator_divides p q h =
    let e : unsigned_abs p.numerator * q.denominator ≡ unsigned_abs q.numerator * p.denominator =
    sym (unsigned_abs-mul p.numerator (pos q.denominator)) ∙ ap unsigned_abs h.same ∙ unsigned_abs-mul q.numerator (pos p.denominator) in
    let P : ℕ → Type 0 = λ x. unsigned_abs q.numerator ∣ x in
    divides_other q.denominator (unsigned_abs q.numerator) (unsigned_abs p.numerator)
    (IsGcd-swap (unsigned_abs q.numerator) q.denominator 1 h.lowest.coprime)
    (subst P (sym e ∙ omega arith) (dvd-mul_right (unsigned_abs q.numerator) p.denominator))

denominator_divides : (p q : Fraction) → Reduces p q → q.denominator ∣ p.denominator
denominator_divides p q h =
    let e : unsigned_abs p.numerator * q.denominator ≡ unsigned_abs q.numerator * p.denominator =
    sym (unsigned_abs-mul p.numerator (pos q.denominator)) ∙ ap unsigned_abs h.same ∙ unsigned_abs-mul q.numerator (pos p.denominator) in
    let P : ℕ → Type 0 = λ x. q.denominator ∣ x in
    divides_other (unsigned_abs q.numerator) q.denominator p.denominator h.lowest.coprime
    (subst P e (dvd-mul_left q.denominator (unsigned_abs p.numerator)))

-- the first numerator over the second denominator
abbrev crossed : Fraction → Fraction → Fraction
crossed p q = record { numerator = p.numerator; denominator = q.denominator }

coprime_of_crossed : (p q l r : Fraction) → IsInLowestTerms p → IsInLowestTerms q → Reduces (crossed p q) l → Reduces (crossed q p) r → IsGcd (unsigned_abs l.numerator * unsigned_abs r.numerator) (l.denominator * r.denominator) 1
coprime_of_crossed p q l r h i j k =
    let ln = unsigned_abs l.numerator in
    let rn = unsigned_abs r.numerator in
    let lr : IsGcd ln r.denominator 1 = coprime_divisors (unsigned_abs p.numerator) p.denominator ln r.denominator h.coprime (numerator_divides (crossed p q) l j) (denominator_divides (crossed q p) r k) in
    let rl : IsGcd rn l.denominator 1 = coprime_divisors (unsigned_abs q.numerator) q.denominator rn l.denominator i.coprime (numerator_divides (crossed q p) r k) (denominator_divides (crossed p q) l j) in
    let left : IsGcd (ln * rn) l.denominator 1 = coprime_product ln rn l.denominator j.lowest.coprime rl in
    let right : IsGcd (ln * rn) r.denominator 1 = coprime_product ln rn r.denominator lr k.lowest.coprime in
    IsGcd-swap (l.denominator * r.denominator) (ln * rn) 1
    (coprime_product l.denominator r.denominator (ln * rn) (IsGcd-swap (ln * rn) l.denominator 1 left) (IsGcd-swap (ln * rn) r.denominator 1 right))

-- each numerator reduced with the other's denominator: the product is in lowest terms
crossed_product : (p q l r : Fraction) → IsInLowestTerms p → IsInLowestTerms q → Reduces (crossed p q) l → Reduces (crossed q p) r → Reduces (product_of p q) (product_of l r)
crossed_product p q l r h i j k =
    let P : ℕ → Type 0 = λ m. IsGcd m (l.denominator * r.denominator) 1 in
    record {
      lowest = record {
        positive = positive_product l.denominator r.denominator j.lowest.positive k.lowest.positive;
        coprime = subst P (sym (unsigned_abs-mul l.numerator r.numerator)) (coprime_of_crossed p q l r h i j k);
      };
      same =
          *ℤ_swap_middle p.numerator q.numerator (pos l.denominator) (pos r.denominator)
          ∙ ap₂ (λ a b. a *ℤ b) j.same k.same
          ∙ *ℤ_swap_middle l.numerator (pos q.denominator) r.numerator (pos p.denominator)
          ∙ ap (λ z. (l.numerator *ℤ r.numerator) *ℤ z) (*ℤ_comm (pos q.denominator) (pos p.denominator));
    }

-- sizes

reduces-size : (n e g : ℕ) → 0 < e → IsGcd n e g → Reduces (size_of n e) (size_of (n / g) (e / g))
reduces-size n e g h i =
    let p : n / g * g ≡ n = div-mul_cancel g i.0 in
    let q : e / g * g ≡ e = div-mul_cancel g i.1 in
    record {
      lowest = record { positive = positive_factor (e / g) g e h q; coprime = coprime_quotients n e g (gcd_positive n e g h i) i };
      same = ap pos (omega (arith, ap (λ x. x * (e / g)) p, ap (λ x. n / g * x) q));
    }

module _ (n d m e p q g k : ℕ) (h : SizesMultiply n d m e p q) (i : IsGcd n e g) (j : IsGcd m d k) where
  crossed-reduces : Reduces (product_of (size_of n d) (size_of m e)) (product_of (size_of (n / g) (e / g)) (size_of (m / k) (d / k)))
  crossed-reduces = crossed_product (size_of n d) (size_of m e) (size_of (n / g) (e / g)) (size_of (m / k) (d / k)) h.first h.second (reduces-size n e g h.second.positive i) (reduces-size m d k h.first.positive j)

  is-crossed : size_of p q ≡ product_of (size_of (n / g) (e / g)) (size_of (m / k) (d / k))
  is-crossed = Reduces-unique (product_of (size_of n d) (size_of m e)) (size_of p q) (product_of (size_of (n / g) (e / g)) (size_of (m / k) (d / k))) (positive_product d e h.first.positive h.second.positive) h.product crossed-reduces

  pub crossed-top : p ≡ n / g * (m / k)
  crossed-top = ap (λ (w : Fraction). unsigned_abs w.numerator) is-crossed

  pub crossed-bottom : q ≡ e / g * (d / k)
  crossed-bottom = ap (λ (w : Fraction). w.denominator) is-crossed

-- the sizes of a product
pub sizes-of : (x y z : Fraction) → IsInLowestTerms x → IsInLowestTerms y → Reduces (product_of x y) z → SizesMultiply (unsigned_abs x.numerator) x.denominator (unsigned_abs y.numerator) y.denominator (unsigned_abs z.numerator) z.denominator
sizes-of x y z h i r = record {
  first = record { positive = h.positive; coprime = h.coprime };
  second = record { positive = i.positive; coprime = i.coprime };
  product = record {
    lowest = record { positive = r.lowest.positive; coprime = r.lowest.coprime };
    same =
        ap (λ n. pos (n * z.denominator)) (sym (unsigned_abs-mul x.numerator y.numerator))
        ∙ ap pos (sym (unsigned_abs-mul (x.numerator *ℤ y.numerator) (pos z.denominator)) ∙ ap unsigned_abs r.same ∙ unsigned_abs-mul z.numerator (pos (x.denominator * y.denominator)));
  };
}

below-zero : (w D : ℕ) (A : ℕ) → 0 < D → pos A ≡ negsuc w *ℤ pos D → ⊥
below-zero w zero A h e = absurd (omega (arith, h))
below-zero w (suc D) A h e =
    let f : pos A ≡ neg_ℤ (pos (suc w * suc D)) = e ∙ neg_ℤ-*ℤ (pos (suc w)) (pos (suc D)) in
    omega (arith, ints, f, positive_product (suc w) (suc D) (omega arith) (omega arith))

-- a number whose product is 0 or above isn't below 0
pub not-below : (z : ℤ) (D A : ℕ) → 0 < D → pos A ≡ z *ℤ pos D → z ≡ pos (unsigned_abs z)
not-below (pos n) D A h e = refl
not-below (negsuc w) D A h e = absurd (below-zero w D A h e)

-- inverses

inverse-lowest : (n d : ℕ) → IsInLowestTerms (size_of (suc n) d) → IsInLowestTerms (size_of d (suc n))
inverse-lowest n d h = record { positive = omega arith; coprime = IsGcd-swap (suc n) d 1 h.coprime }

pub inverse-size : (n d : ℕ) (z : Fraction) → IsInLowestTerms (size_of (suc n) d) → IsInverse (size_of (suc n) d) z → z ≡ size_of d (suc n)
inverse-size n d z h i = lowest_terms_equal z (size_of d (suc n)) i.lowest (inverse-lowest n d h) (*ℤ_comm z.numerator (pos (suc n)) ∙ i.elsewhere (λ e. cc))
