-- What the value of an operation tells: the numerals that its sort has, and the fractions that lines compute with.
use Rattle.std.proofs.Common.{◌≡◌, ◌&&◌, true, ℕ, ◌<◌, ℤ, pos, negsuc, [], ◌∷◌, ap, sym, ◌∙◌, subst, arith}
use Rattle.std.specs.Prelude.{◌<ℤ◌, ◌≤ℤ◌, unsigned_abs}
use Rattle.std.proofs.lemmas.Int.{ints}
use Rattle.alg_terms.specs.declared.sorts.Sort.{Sort}
use Rattle.alg_terms.specs.declared.symbols.Sym.TheVariants.{Add, Mul, Neg, Sub, Inv, Div, Npow, Zpow, Nsmul, Zsmul}
use Rattle.alg_num.specs.Fraction.{Fraction, NumbersInRange}
use Rattle.alg_num.specs.LowestTerms.{IsInLowestTerms, Reduces}
use Rattle.alg_num.specs.Inverse.{IsInverse}
use Rattle.alg_num.specs.LeastSum.{LeastSumInRange}
use Rattle.alg_num.specs.Negative.{negative_of}
use Rattle.alg_num.specs.Sum.{sum_of}
use Rattle.alg_num.specs.Product.{product_of}
use Rattle.alg_num.specs.Power.{power_of}
use Rattle.alg_law.specs.declared.classes.Class.TheVariants.{Semiring, Ring, Field, CharZero}
use Rattle.alg_law.specs.Having.{has_class}
use Rattle.alg_build.specs.Book.{Book}
use Rattle.alg_numerals.specs.Numerals.{HasSigns}
use Rattle.alg_fraction_numbers.specs.Products.{size_of}
use Rattle.alg_fractions.specs.Fractions.{HasFraction, HasQuotients}
use Rattle.alg_values.specs.Arithmetic as value
use Rattle.alg_values.specs.Arithmetic.{sum_value, product_value, power_value, integer_power_value, inverse_of}
use Rattle.alg_values.specs.declared.value.Value.{Value}
use Rattle.alg_values.specs.declared.value.Value.TheVariants.{Num}
use Rattle.alg_values.proofs.Inverses.{inverse_of-inverts, inverse_is}
use Rattle.alg_value_laws.proofs.Ranges.{where_num, num_is, sum_reduces, sum_ranged, product_reduces, power_reduces, power_ranged}
use Rattle.alg_arithmetic.specs.Evaluating.{Evaluates}
use Rattle.alg_arithmetic.proofs.Having.{fits_fraction, ring_signs, field_quotients}
use Rattle.alg_arithmetic.proofs.InversePowers.{power_inverts, inverse_power_ranged}
use Rattle.alg_arithmetic.proofs.WholeNumbers.{natural_is, integer_is, negative_is, negative_product}

module _ (b : Book) (s : Sort) where
  -- p + q
  module _ (p q z : Fraction) (e : Evaluates b Add s (p ∷ q ∷ []) z) where
    pub sum_first : HasFraction b s p
    sum_first = fits_fraction b s e.known e.library p e.fit.0

    pub sum_second : HasFraction b s q
    sum_second = fits_fraction b s e.known e.library q e.fit.1.0

    sum_is : sum_value p q ≡ Num z
    sum_is = (where_num (has_class b.theory.declarations s Semiring) (sum_value p q) z e.value).1

    pub sum_adds : 0 < p.denominator → 0 < q.denominator → Reduces (sum_of p q) z
    sum_adds h k = sum_reduces p q z h k sum_is

    pub sum_small : 0 < p.denominator → 0 < q.denominator → LeastSumInRange p q
    sum_small h k = sum_ranged p q z h k sum_is

  -- p - q
  module _ (p q z : Fraction) (e : Evaluates b Sub s (p ∷ q ∷ []) z) where
    difference_is : (has_class b.theory.declarations s Ring ≡ true) × (sum_value p (negative_of q) ≡ Num z)
    difference_is = where_num (has_class b.theory.declarations s Ring) (sum_value p (negative_of q)) z e.value

    pub difference_signs : HasSigns b s
    difference_signs = ring_signs b s e.known e.library difference_is.0

    pub difference_first : HasFraction b s p
    difference_first = fits_fraction b s e.known e.library p e.fit.0

    pub difference_second : HasFraction b s q
    difference_second = fits_fraction b s e.known e.library q e.fit.1.0

    pub difference_subtracts : 0 < p.denominator → 0 < q.denominator → Reduces (sum_of p (negative_of q)) z
    difference_subtracts h k = sum_reduces p (negative_of q) z h k difference_is.1

    pub difference_small : 0 < p.denominator → 0 < q.denominator → LeastSumInRange p (negative_of q)
    difference_small h k = sum_ranged p (negative_of q) z h k difference_is.1

  -- -p
  module _ (p z : Fraction) (e : Evaluates b Neg s (p ∷ []) z) where
    negation_value : (has_class b.theory.declarations s Ring ≡ true) × (Num (negative_of p) ≡ Num z)
    negation_value = where_num (has_class b.theory.declarations s Ring) (Num (negative_of p)) z e.value

    pub negation_signs : HasSigns b s
    negation_signs = ring_signs b s e.known e.library negation_value.0

    pub negation_first : HasFraction b s p
    negation_first = fits_fraction b s e.known e.library p e.fit.0

    pub negation_is : negative_of p ≡ z
    negation_is = num_is (negative_of p) z negation_value.1

  -- p * q
  module _ (p q z : Fraction) (e : Evaluates b Mul s (p ∷ q ∷ []) z) where
    pub product_first : HasFraction b s p
    product_first = fits_fraction b s e.known e.library p e.fit.0

    pub product_second : HasFraction b s q
    product_second = fits_fraction b s e.known e.library q e.fit.1.0

    pub product_multiplies : 0 < p.denominator → 0 < q.denominator → Reduces (product_of p q) z
    product_multiplies h k = product_reduces p q z h k (where_num (has_class b.theory.declarations s Semiring) (product_value p q) z e.value).1

  in_field : (v : Value) (z : Fraction) → value.where_has (has_class b.theory.declarations s Field && has_class b.theory.declarations s CharZero) v ≡ Num z → ((has_class b.theory.declarations s Field && has_class b.theory.declarations s CharZero) ≡ true) × (v ≡ Num z)
  in_field v z e = where_num (has_class b.theory.declarations s Field && has_class b.theory.declarations s CharZero) v z e

  -- p⁻¹
  module _ (p z : Fraction) (e : Evaluates b Inv s (p ∷ []) z) where
    pub inverse_quotients : HasQuotients b s
    inverse_quotients = field_quotients b s e.known e.library (in_field (Num (inverse_of p)) z e.value).0

    pub inverse_inverts : IsInLowestTerms p → IsInverse p z
    inverse_inverts h = subst (IsInverse p) (num_is (inverse_of p) z (in_field (Num (inverse_of p)) z e.value).1) (inverse_of-inverts p h)

  -- p / q, by the inverse of q
  module _ (p q z : Fraction) (e : Evaluates b Div s (p ∷ q ∷ []) z) where
    pub quotient_quotients : HasQuotients b s
    quotient_quotients = field_quotients b s e.known e.library (in_field (product_value p (inverse_of q)) z e.value).0

    pub quotient_multiplies : (w : Fraction) → 0 < p.denominator → IsInLowestTerms q → IsInverse q w → Reduces (product_of p w) z
    quotient_multiplies w h k i =
        let P : Fraction → Type 0 = λ x. product_value p x ≡ Num z in
        product_reduces p w z h i.lowest.positive (subst P (sym (inverse_is q w k i)) (in_field (product_value p (inverse_of q)) z e.value).1)

  -- p ^ k, with k in ℕ
  module _ (p k z : Fraction) (e : Evaluates b Npow s (p ∷ k ∷ []) z) where
    pub power_first : HasFraction b s p
    power_first = fits_fraction b s e.known e.library p e.fit.0

    power_is : power_value p (unsigned_abs k.numerator) ≡ Num z
    power_is = (where_num (has_class b.theory.declarations s Semiring) (power_value p (unsigned_abs k.numerator)) z e.value).1

    pub power_raises : 0 < p.denominator → Reduces (power_of p (unsigned_abs k.numerator)) z
    power_raises h = power_reduces p z (unsigned_abs k.numerator) h power_is

    pub power_small : NumbersInRange (power_of p (unsigned_abs k.numerator))
    power_small = power_ranged p z (unsigned_abs k.numerator) power_is

  from_zero : (p z : Fraction) (i : ℤ) → pos 0 ≤ℤ i → integer_power_value p i ≡ Num z → power_value p (unsigned_abs i) ≡ Num z
  from_zero p z (pos n) h e = e
  from_zero p z (negsuc n) h e = absurd (omega (arith, ints, h))

  below_zero : (p z : Fraction) (i : ℤ) → i <ℤ pos 0 → integer_power_value p i ≡ Num z → power_value (inverse_of p) (unsigned_abs i) ≡ Num z
  below_zero p z (pos n) h e = absurd (omega (arith, ints, h))
  below_zero p z (negsuc n) h e = e

  -- p ^ k, with k in ℤ
  module _ (p k z : Fraction) (e : Evaluates b Zpow s (p ∷ k ∷ []) z) where
    integer_power_is : ((has_class b.theory.declarations s Field && has_class b.theory.declarations s CharZero) ≡ true) × (integer_power_value p k.numerator ≡ Num z)
    integer_power_is = in_field (integer_power_value p k.numerator) z e.value

    pub integer_power_quotients : HasQuotients b s
    integer_power_quotients = field_quotients b s e.known e.library integer_power_is.0

    pub integer_power_raises : 0 < p.denominator → pos 0 ≤ℤ k.numerator → Reduces (power_of p (unsigned_abs k.numerator)) z
    integer_power_raises h i = power_reduces p z (unsigned_abs k.numerator) h (from_zero p z k.numerator i integer_power_is.1)

    pub integer_power_small : pos 0 ≤ℤ k.numerator → NumbersInRange (power_of p (unsigned_abs k.numerator))
    integer_power_small i = power_ranged p z (unsigned_abs k.numerator) (from_zero p z k.numerator i integer_power_is.1)

    pub inverse_power_small : IsInLowestTerms p → k.numerator <ℤ pos 0 → NumbersInRange (power_of p (unsigned_abs k.numerator))
    inverse_power_small h i = inverse_power_ranged p (unsigned_abs k.numerator) h (power_ranged (inverse_of p) z (unsigned_abs k.numerator) (below_zero p z k.numerator i integer_power_is.1))

    pub inverse_power_inverts : (w : Fraction) → IsInLowestTerms p → k.numerator <ℤ pos 0 → Reduces (power_of p (unsigned_abs k.numerator)) w → IsInverse w z
    inverse_power_inverts w h i r =
        let j : IsInverse p (inverse_of p) = inverse_of-inverts p h in
        let above : 0 < unsigned_abs k.numerator = size_above k.numerator i in
        power_inverts p (inverse_of p) w z (unsigned_abs k.numerator) above h j r (power_reduces (inverse_of p) z (unsigned_abs k.numerator) j.lowest.positive (below_zero p z k.numerator i integer_power_is.1))
      where
        size_above : (x : ℤ) → x <ℤ pos 0 → 0 < unsigned_abs x
        size_above (pos n) l = absurd (omega (arith, ints, l))
        size_above (negsuc n) l = omega arith

  -- k • p, with k in ℕ
  module _ (k p z : Fraction) (e : Evaluates b Nsmul s (k ∷ p ∷ []) z) where
    pub multiple_first : HasFraction b s p
    multiple_first = fits_fraction b s e.known e.library p e.fit.1.0

    pub multiple_multiplies : (n : ℕ) → n ≡ unsigned_abs k.numerator → 0 < k.denominator → 0 < p.denominator → Reduces (product_of (size_of n 1) p) z
    multiple_multiplies n j h i =
        let P : Fraction → Type 0 = λ x. Reduces (product_of x p) z in
        subst P (natural_is b.theory.declarations k e.fit.0 ∙ ap (λ m. size_of m 1) (sym j)) (product_reduces k p z h i (where_num (has_class b.theory.declarations s Semiring) (product_value k p) z e.value).1)

  -- k • p, with k in ℤ
  module _ (k p z : Fraction) (e : Evaluates b Zsmul s (k ∷ p ∷ []) z) where
    integer_multiple_is : (has_class b.theory.declarations s Ring ≡ true) × (product_value k p ≡ Num z)
    integer_multiple_is = where_num (has_class b.theory.declarations s Ring) (product_value k p) z e.value

    pub integer_multiple_signs : HasSigns b s
    integer_multiple_signs = ring_signs b s e.known e.library integer_multiple_is.0

    pub integer_multiple_first : HasFraction b s p
    integer_multiple_first = fits_fraction b s e.known e.library p e.fit.1.0

    pub integer_multiple_multiplies : (n : ℕ) → n ≡ unsigned_abs k.numerator → 0 < k.denominator → 0 < p.denominator → pos 0 ≤ℤ k.numerator → Reduces (product_of (size_of n 1) p) z
    integer_multiple_multiplies n j h i l =
        let P : Fraction → Type 0 = λ x. Reduces (product_of x p) z in
        subst P (integer_is b.theory.declarations k e.fit.0 l ∙ ap (λ m. size_of m 1) (sym j)) (product_reduces k p z h i integer_multiple_is.1)

    pub negative_multiple_multiplies : (n : ℕ) (w : Fraction) → n ≡ unsigned_abs k.numerator → w ≡ negative_of z → 0 < k.denominator → 0 < p.denominator → k.numerator <ℤ pos 0 → Reduces (product_of (size_of n 1) p) w
    negative_multiple_multiplies n w j m h i l =
        let P : Fraction → Type 0 = λ x. Reduces (product_of x p) z in
        let Q : Fraction → Type 0 = λ x. Reduces (product_of (size_of n 1) p) x in
        subst Q (sym m) (negative_product (size_of n 1) p z (subst P (negative_is b.theory.declarations k e.fit.0 l ∙ ap (λ x. negative_of (size_of x 1)) (sym j)) (product_reduces k p z h i integer_multiple_is.1)))
