-- What the operations on fractions make has a numeral where their parts have.
use Rattle.std.proofs.Common.{◌≡◌, ◌+◌, ◌*◌, ◌^◌, ◌/◌, ℕ, zero, suc, ℤ, pos, ◌*ℤ◌, ◌+ℤ◌, Bool, true, false, List, [], ◌∷◌, refl, ap, sym, ◌∙◌, subst, ◌⊎◌, inl, inr}
use Rattle.std.specs.Prelude.{unsigned_abs}
use Rattle.std.specs.Int.{int_pow}
use Rattle.std.proofs.lemmas.Bool.{and_parts}
use Rattle.alg_terms.specs.declared.sorts.Sort.{Sort}
use Rattle.alg_terms.specs.declared.sorts.Sort.TheVariants.{Nat, Int}
use Rattle.alg_num.specs.Fraction.{Fraction}
use Rattle.alg_num.specs.Reduced.{reduced, quotient, greatest_divisor}
use Rattle.alg_num.specs.Sum.{sum_of}
use Rattle.alg_num.specs.Product.{product_of}
use Rattle.alg_num.specs.Power.{power_of}
use Rattle.alg_num.proofs.ReducedLaws.{reduced_of_lowest}
use Rattle.alg_num.proofs.WholeNumbers.{whole_lowest}
use Rattle.alg_num.proofs.LowestTermsLaws.{fraction_equal}
use Rattle.alg_num.proofs.PowerLaws.{int_pow-zero, int_pow-suc}
use Rattle.alg_num.proofs.Powers.{one-pow}
use Rattle.alg_law.specs.declared.classes.Class.{Class}
use Rattle.alg_law.specs.declared.classes.Class.TheVariants.{Semiring, Ring, Field, CharZero}
use Rattle.alg_law.specs.Declarations.{Declaration, Carrier, Instance, Variable, Function, Hypothesis}
use Rattle.alg_law.specs.Having.{has_class, instances_give}
use Rattle.alg_law.proofs.HavingLaws.{has_class-all}
use Rattle.alg_values.specs.Arithmetic.{whole_number, ranged, sum_value, product_value, power_value}
use Rattle.alg_values.specs.declared.value.Value.TheVariants.{Num}
use Rattle.alg_value_laws.specs.Fitting.{Fits, IsRing, IsFieldOfZero}

-- the sorts that are built in have their own classes alone

none_given : (ds : List Declaration) (c : Class) → instances_give ds Nat c ≡ false
none_given [] c = refl
none_given (Carrier n ∷ ds) c = none_given ds c
none_given (Instance k b ∷ ds) c = none_given ds c
none_given (Variable n t ∷ ds) c = none_given ds c
none_given (Function n ts t ∷ ds) c = none_given ds c
none_given (Hypothesis n h ∷ ds) c = none_given ds c

none_given_int : (ds : List Declaration) (c : Class) → instances_give ds Int c ≡ false
none_given_int [] c = refl
none_given_int (Carrier n ∷ ds) c = none_given_int ds c
none_given_int (Instance k b ∷ ds) c = none_given_int ds c
none_given_int (Variable n t ∷ ds) c = none_given_int ds c
none_given_int (Function n ts t ∷ ds) c = none_given_int ds c
none_given_int (Hypothesis n h ∷ ds) c = none_given_int ds c

-- a value of a tree of ℕ is a natural number
pub natural_fits : (ds : List Declaration) (p : Fraction) → Fits ds Nat p → (n : ℕ) × (p ≡ whole_number (pos n))
natural_fits ds p h = at h.sign h.over
  where
    at : IsRing ds Nat ⊎ ((n : ℕ) × (p.numerator ≡ pos n)) → IsFieldOfZero ds Nat ⊎ (p.denominator ≡ 1) → (n : ℕ) × (p ≡ whole_number (pos n))
    at (inl e) o = let f : false ≡ true = sym (none_given ds Ring) ∙ e in cc
    at (inr q) (inl e) = let f : false ≡ true = sym (none_given ds Field) ∙ (and_parts (has_class ds Nat Field) (has_class ds Nat CharZero) e).0 in cc
    at (inr q) (inr e) = (q.0, fraction_equal p (whole_number (pos q.0)) q.1 e)

-- and one of ℤ an integer
pub integer_fits : (ds : List Declaration) (p : Fraction) → Fits ds Int p → p ≡ whole_number p.numerator
integer_fits ds p h = at h.over
  where
    at : IsFieldOfZero ds Int ⊎ (p.denominator ≡ 1) → p ≡ whole_number p.numerator
    at (inl e) = let f : false ≡ true = sym (none_given_int ds Field) ∙ (and_parts (has_class ds Int Field) (has_class ds Int CharZero) e).0 in cc
    at (inr e) = fraction_equal p (whole_number p.numerator) refl e

pub semiring_of_field : (ds : List Declaration) (s : Sort) → has_class ds s Field ≡ true → has_class ds s Semiring ≡ true
semiring_of_field ds s h = has_class-all ds s Field Semiring refl h

module _ (ds : List Declaration) (s : Sort) where
  pub field_of : IsFieldOfZero ds s → has_class ds s Field ≡ true
  field_of h = (and_parts (has_class ds s Field) (has_class ds s CharZero) h).0

  pub char_zero_of : IsFieldOfZero ds s → has_class ds s CharZero ≡ true
  char_zero_of h = (and_parts (has_class ds s Field) (has_class ds s CharZero) h).1

  pub ring_of : IsFieldOfZero ds s → IsRing ds s
  ring_of h = has_class-all ds s Field Ring refl (field_of h)

  pub semiring_of : IsRing ds s → has_class ds s Semiring ≡ true
  semiring_of h = has_class-all ds s Ring Semiring refl h

  -- every fraction has one in a field of characteristic zero
  pub field_fits : IsFieldOfZero ds s → (p : Fraction) → Fits ds s p
  field_fits h p = record { semiring = semiring_of (ring_of h); sign = inl (ring_of h); over = inl h }

  pub whole_fits : has_class ds s Semiring ≡ true → (n : ℕ) → Fits ds s (whole_number (pos n))
  whole_fits h n = record { semiring = h; sign = inr (n, refl); over = inr refl }

  pub integral_fits : IsRing ds s → (z : ℤ) → Fits ds s (whole_number z)
  integral_fits h z = record { semiring = semiring_of h; sign = inl h; over = inr refl }

  -- in a ring the sign doesn't matter
  pub ring_fits : IsRing ds s → (p q : Fraction) → Fits ds s p → q.denominator ≡ p.denominator → Fits ds s q
  ring_fits r p q h e = record { semiring = h.semiring; sign = inl r; over = elim h.over [ inl f ↦ inl f | inr d ↦ inr (e ∙ d) ] }

  reduced_sign : (p : Fraction) → (n : ℕ) × (p.numerator ≡ pos n) → (n : ℕ) × ((reduced p).numerator ≡ pos n)
  unfolding reduced
  reduced_sign p q = let g = greatest_divisor (unsigned_abs p.numerator) p.denominator in (q.0 / g, ap (λ z. quotient z g) q.1)

  reduced_over : (p : Fraction) → p.denominator ≡ 1 → (reduced p).denominator ≡ 1
  reduced_over p e =
      let same : p ≡ whole_number p.numerator = fraction_equal p (whole_number p.numerator) refl e in
      let low = reduced_of_lowest (whole_number p.numerator) (whole_lowest p.numerator) in
      ap (λ (q : Fraction). (reduced q).denominator) same ∙ ap (λ (q : Fraction). q.denominator) low

  reduced_fits : (p : Fraction) → Fits ds s p → Fits ds s (reduced p)
  reduced_fits p h = record {
    semiring = h.semiring;
    sign = elim h.sign [ inl e ↦ inl e | inr q ↦ inr (reduced_sign p q) ];
    over = elim h.over [ inl e ↦ inl e | inr e ↦ inr (reduced_over p e) ];
  }

  ranged_fits : (t : Bool) (p z : Fraction) → Fits ds s p → ranged t p ≡ Num z → Fits ds s z
  ranged_fits true p z h e = let same : reduced p ≡ z = cc in subst (Fits ds s) same (reduced_fits p h)
  ranged_fits false p z h e = cc

  natural_sum : (a b : ℤ) (d e : ℕ) → (n : ℕ) × (a ≡ pos n) → (n : ℕ) × (b ≡ pos n) → (n : ℕ) × (a *ℤ pos e +ℤ b *ℤ pos d ≡ pos n)
  natural_sum a b d e p q = (p.0 * e + q.0 * d, (λ i. p.1 i *ℤ pos e +ℤ q.1 i *ℤ pos d) ∙ refl)

  natural_product : (a b : ℤ) → (n : ℕ) × (a ≡ pos n) → (n : ℕ) × (b ≡ pos n) → (n : ℕ) × (a *ℤ b ≡ pos n)
  natural_product a b p q = (p.0 * q.0, (λ i. p.1 i *ℤ q.1 i) ∙ refl)

  one_product : (d e : ℕ) → d ≡ 1 → e ≡ 1 → d * e ≡ 1
  one_product d e p q = λ i. p i * q i

  sum_of-fits : (p q : Fraction) → Fits ds s p → Fits ds s q → Fits ds s (sum_of p q)
  sum_of-fits p q h k = record {
    semiring = h.semiring;
    sign = elim h.sign [ inl e ↦ inl e | inr m ↦ elim k.sign [ inl e ↦ inl e | inr n ↦ inr (natural_sum p.numerator q.numerator p.denominator q.denominator m n) ] ];
    over = elim h.over [ inl e ↦ inl e | inr m ↦ elim k.over [ inl e ↦ inl e | inr n ↦ inr (one_product p.denominator q.denominator m n) ] ];
  }

  product_of-fits : (p q : Fraction) → Fits ds s p → Fits ds s q → Fits ds s (product_of p q)
  product_of-fits p q h k = record {
    semiring = h.semiring;
    sign = elim h.sign [ inl e ↦ inl e | inr m ↦ elim k.sign [ inl e ↦ inl e | inr n ↦ inr (natural_product p.numerator q.numerator m n) ] ];
    over = elim h.over [ inl e ↦ inl e | inr m ↦ elim k.over [ inl e ↦ inl e | inr n ↦ inr (one_product p.denominator q.denominator m n) ] ];
  }

  natural_power : (a : ℤ) (k : ℕ) → (n : ℕ) × (a ≡ pos n) → (n : ℕ) × (int_pow a k ≡ pos n)
  natural_power a zero p = (1, int_pow-zero a)
  natural_power a (suc k) p =
      let h = natural_product (int_pow a k) a (natural_power a k p) p in
      (h.0, int_pow-suc a k ∙ h.1)

  power_of-fits : (p : Fraction) (k : ℕ) → Fits ds s p → Fits ds s (power_of p k)
  power_of-fits p k h = record {
    semiring = h.semiring;
    sign = elim h.sign [ inl e ↦ inl e | inr m ↦ inr (natural_power p.numerator k m) ];
    over = elim h.over [ inl e ↦ inl e | inr m ↦ inr (ap (λ d. d ^ k) m ∙ one-pow k) ];
  }

  pub sum_fits : (p q z : Fraction) → Fits ds s p → Fits ds s q → sum_value p q ≡ Num z → Fits ds s z
  sum_fits p q z h k e = ranged_fits _ (sum_of p q) z (sum_of-fits p q h k) e

  pub product_fits : (p q z : Fraction) → Fits ds s p → Fits ds s q → product_value p q ≡ Num z → Fits ds s z
  product_fits p q z h k e = ranged_fits _ (product_of p q) z (product_of-fits p q h k) e

  pub power_fits : (p z : Fraction) (k : ℕ) → Fits ds s p → power_value p k ≡ Num z → Fits ds s z
  power_fits p z k h e = ranged_fits _ (power_of p k) z (power_of-fits p k h) e
