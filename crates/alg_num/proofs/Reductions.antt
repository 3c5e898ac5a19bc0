-- What reducing, inverting and multiplying give.
use Rattle.std.proofs.Common.{◌≡◌, ℕ, zero, suc, ◌*◌, ◌<◌, ℤ, pos, negsuc, ◌*ℤ◌, Bool, true, false, arith, refl, ap, ap₂, sym, ◌∙◌, subst, to_z, of_z}
use Rattle.std.specs.Prelude.{unsigned_abs, int_lt as lt_z, Option, Some, None}
use Rattle.std.specs.Int.{IsGcd, ◌∣◌, w128}
use Rattle.std.proofs.lemmas.Int.{ints, unsigned_abs-mul, to_z-of_z, fits_signed_from_abs}
use Rattle.std.proofs.lemmas.Nat.Gcd.{IsGcd-swap}
use Rattle.std.proofs.Math.Nat.{dvd-mul_left, dvd-mul_right}
use Rattle.std.proofs.Math.IntN.{*ℤ_comm}
use Rattle.alg_num.proofs.IntegerLaws.{positive_product, *ℤ_swap_middle}
use Rattle.alg_num.proofs.CoprimeLaws.{coprime_divisors, coprime_product, divides_other}
use Rattle.alg_num.specs.Range.{InRange}
use Rattle.alg_num.specs.Fraction.{Fraction, NumbersInRange}
use Rattle.alg_num.specs.LowestTerms.{IsInLowestTerms, Reduces, LowestInRange}
use Rattle.alg_num.specs.Answer.{ReducesIff}
use Rattle.alg_num.proofs.ReducedLaws.{signed, unsigned_abs-signed, as_signed}
use Rattle.alg_num.proofs.LowestTermsLaws.{Reduces-unique, Reduces-same}
use Rattle.alg_num.specs.Product.{product_of}
use Rattle.alg_num.specs.Inverse.{IsInverse}

-- a number in range is what it is cast to and back
pub cast_back : (z : ℤ) → InRange z → to_z w128 (of_z w128 z) ≡ z
cast_back z h = to_z-of_z w128 z (fits_signed_from_abs w128 z h)

size_positive : (z : ℤ) → (z ≡ pos 0 → ⊥) → 0 < unsigned_abs z
size_positive (pos zero) h = absurd (h refl)
size_positive (pos (suc n)) h = omega arith
size_positive (negsuc n) h = omega arith

signed_square : (t : Bool) (n d : ℕ) → signed t n *ℤ signed t d ≡ pos (d * n)
signed_square true zero zero = refl
signed_square true zero (suc d) = omega (arith, ints)
signed_square true (suc n) zero = omega (arith, ints)
signed_square true (suc n) (suc d) = ap pos (omega arith)
signed_square false n d = ap pos (omega arith)

-- the numbers change places, and the sign stays above
pub inversion : (z : ℤ) (d n : ℕ) (r : ℤ) → IsInLowestTerms (record { numerator = z; denominator = d }) → (z ≡ pos 0 → ⊥) → n ≡ unsigned_abs z → r ≡ signed (lt_z z (pos 0)) d → IsInverse (record { numerator = z; denominator = d }) (record { numerator = r; denominator = n })
inversion z d n r h some e j =
    let t = lt_z z (pos 0) in
    let size : unsigned_abs r ≡ d = ap unsigned_abs j ∙ unsigned_abs-signed t d in
    let P : ℕ → Type 0 = λ m. IsGcd m n 1 in
    let Q : ℕ → Type 0 = λ m. IsGcd d m 1 in
    record {
      lowest = record {
        positive = rw e (size_positive z some);
        coprime = subst P (sym size) (subst Q (sym e) (IsGcd-swap (unsigned_abs z) d 1 h.coprime));
      };
      at_zero = λ f. absurd (some f);
      elsewhere = λ _. ap₂ (λ a b. a *ℤ b) (as_signed z t refl ∙ ap (signed t) (sym e)) j ∙ signed_square t n d;
    }

-- the numbers of a fraction in lowest terms divide those of each fraction with its value
numerator_divides : (p q : Fraction) → Reduces p q → unsigned_abs q.numerator ∣ unsigned_abs p.numerator
numerator_divides p q h =
    let e : unsigned_abs p.numerator * q.denominator ≡ unsigned_abs q.numerator * p.denominator =
    sym (unsigned_abs-mul p.numerator (pos q.denominator)) ∙ ap unsigned_abs h.same ∙ unsigned_abs-mul q.numerator (pos p.denominator) in
    let P : ℕ → Type 0 = λ x. unsigned_abs q.numerator ∣ x in
    divides_other q.denominator (unsigned_abs q.numerator) (unsigned_abs p.numerator)
    (IsGcd-swap (unsigned_abs q.numerator) q.denominator 1 h.lowest.coprime)
    (subst P (sym e ∙ omega arith) (dvd-mul_right (unsigned_abs q.numerator) p.denominator))

denominator_divides : (p q : Fraction) → Reduces p q → q.denominator ∣ p.denominator
denominator_divides p q h =
    let e : unsigned_abs p.numerator * q.denominator ≡ unsigned_abs q.numerator * p.denominator =
    sym (unsigned_abs-mul p.numerator (pos q.denominator)) ∙ ap unsigned_abs h.same ∙ unsigned_abs-mul q.numerator (pos p.denominator) in
    let P : ℕ → Type 0 = λ x. q.denominator ∣ x in
    divides_other (unsigned_abs q.numerator) q.denominator p.denominator h.lowest.coprime
    (subst P e (dvd-mul_left q.denominator (unsigned_abs p.numerator)))

-- the first numerator over the second denominator
abbrev pub crossed : Fraction → Fraction → Fraction
crossed p q = record { numerator = p.numerator; denominator = q.denominator }

coprime_of_crossed : (p q l r : Fraction) → IsInLowestTerms p → IsInLowestTerms q → Reduces (crossed p q) l → Reduces (crossed q p) r → IsGcd (unsigned_abs l.numerator * unsigned_abs r.numerator) (l.denominator * r.denominator) 1
coprime_of_crossed p q l r h i j k =
    let ln = unsigned_abs l.numerator in
    let rn = unsigned_abs r.numerator in
    let lr : IsGcd ln r.denominator 1 = coprime_divisors (unsigned_abs p.numerator) p.denominator ln r.denominator h.coprime (numerator_divides (crossed p q) l j) (denominator_divides (crossed q p) r k) in
    let rl : IsGcd rn l.denominator 1 = coprime_divisors (unsigned_abs q.numerator) q.denominator rn l.denominator i.coprime (numerator_divides (crossed q p) r k) (denominator_divides (crossed p q) l j) in
    let left : IsGcd (ln * rn) l.denominator 1 = coprime_product ln rn l.denominator j.lowest.coprime rl in
    let right : IsGcd (ln * rn) r.denominator 1 = coprime_product ln rn r.denominator lr k.lowest.coprime in
    IsGcd-swap (l.denominator * r.denominator) (ln * rn) 1
    (coprime_product l.denominator r.denominator (ln * rn) (IsGcd-swap (ln * rn) l.denominator 1 left) (IsGcd-swap (ln * rn) r.denominator 1 right))

-- each numerator reduced with the other's denominator: the product is in lowest terms
crossed_product : (p q l r : Fraction) → IsInLowestTerms p → IsInLowestTerms q → Reduces (crossed p q) l → Reduces (crossed q p) r → Reduces (product_of p q) (product_of l r)
crossed_product p q l r h i j k =
    let P : ℕ → Type 0 = λ m. IsGcd m (l.denominator * r.denominator) 1 in
    record {
      lowest = record {
        positive = positive_product l.denominator r.denominator j.lowest.positive k.lowest.positive;
        coprime = subst P (sym (unsigned_abs-mul l.numerator r.numerator)) (coprime_of_crossed p q l r h i j k);
      };
      same =
          *ℤ_swap_middle p.numerator q.numerator (pos l.denominator) (pos r.denominator)
          ∙ ap₂ (λ a b. a *ℤ b) j.same k.same
          ∙ *ℤ_swap_middle l.numerator (pos q.denominator) r.numerator (pos p.denominator)
          ∙ ap (λ z. (l.numerator *ℤ r.numerator) *ℤ z) (*ℤ_comm (pos q.denominator) (pos p.denominator));
    }

-- a fraction whose lowest terms are past the range
past_range : (p q : Fraction) → 0 < p.denominator → Reduces p q → (NumbersInRange q → ⊥) → LowestInRange p → ⊥
past_range p q h i n w = n (subst NumbersInRange (Reduces-unique p w.lowest q h w.reduces i) w.small)

-- so the product of the two in range is the product in lowest terms in range
pub crossed_answer : (o : Option Fraction) (p q l r : Fraction) → IsInLowestTerms p → IsInLowestTerms q → Reduces (crossed p q) l → Reduces (crossed q p) r → ReducesIff o (NumbersInRange (product_of l r)) (product_of l r) → ReducesIff o (LowestInRange (product_of p q)) (product_of p q)
crossed_answer (Some x) p q l r h i j k w =
    let lowest = crossed_product p q l r h i j k in (
      record { lowest = product_of l r; reduces = lowest; small = w.0 },
      Reduces-same (product_of l r) (product_of p q) x lowest.lowest.positive lowest.same w.1,
    )
crossed_answer None p q l r h i j k w =
    past_range (product_of p q) (product_of l r) (positive_product p.denominator q.denominator h.positive i.positive) (crossed_product p q l r h i j k) w
