-- Laws of fractions in lowest terms.
use Rattle.std.proofs.Common.{◌≡◌, ◌*◌, ◌<◌, ℤ, pos, ◌*ℤ◌, refl, ap, ap₂, sym, ◌∙◌}
use Rattle.std.specs.Prelude.{unsigned_abs}
use Rattle.std.proofs.lemmas.Int.{unsigned_abs-mul}
use Rattle.std.proofs.Math.IntN.{*ℤ_comm}
use Rattle.alg_num.proofs.IntegerLaws.{*ℤ_assoc, cancel_ℤ}
use Rattle.alg_num.proofs.CoprimeLaws.{coprime_unique}
use Rattle.alg_num.specs.Fraction.{Fraction, IsSameValue}
use Rattle.alg_num.specs.LowestTerms.{IsInLowestTerms, Reduces}

pub IsSameValue-sym : (p q : Fraction) → IsSameValue p q → IsSameValue q p
IsSameValue-sym p q h = sym h

-- a common factor on the right goes round a product of three
rotate : (a b c : ℤ) → (a *ℤ b) *ℤ c ≡ (a *ℤ c) *ℤ b
rotate a b c = *ℤ_assoc a b c ∙ ap (λ z. a *ℤ z) (*ℤ_comm b c) ∙ sym (*ℤ_assoc a c b)

pub IsSameValue-trans : (p q r : Fraction) → 0 < q.denominator → IsSameValue p q → IsSameValue q r → IsSameValue p r
IsSameValue-trans p q r h i j =
    cancel_ℤ (p.numerator *ℤ pos r.denominator) (r.numerator *ℤ pos p.denominator) q.denominator h
    (rotate p.numerator (pos r.denominator) (pos q.denominator)
    ∙ ap (λ z. z *ℤ pos r.denominator) i
    ∙ rotate q.numerator (pos p.denominator) (pos r.denominator)
    ∙ ap (λ z. z *ℤ pos p.denominator) j
    ∙ rotate r.numerator (pos q.denominator) (pos p.denominator))

pub fraction_equal : (p q : Fraction) → p.numerator ≡ q.numerator → p.denominator ≡ q.denominator → p ≡ q
fraction_equal p q e f = ap₂ (λ a b. record { numerator = a; denominator = b }) e f

-- two fractions in lowest terms are equal where their cross products are
pub lowest_terms_equal : (p q : Fraction) → IsInLowestTerms p → IsInLowestTerms q → IsSameValue p q → p ≡ q
lowest_terms_equal p q h i e =
    let sizes : unsigned_abs p.numerator * q.denominator ≡ unsigned_abs q.numerator * p.denominator =
    sym (unsigned_abs-mul p.numerator (pos q.denominator)) ∙ ap unsigned_abs e ∙ unsigned_abs-mul q.numerator (pos p.denominator) in
    let both = coprime_unique (unsigned_abs p.numerator) p.denominator (unsigned_abs q.numerator) q.denominator h.positive i.positive h.coprime i.coprime sizes in
    fraction_equal p q
    (cancel_ℤ p.numerator q.numerator q.denominator i.positive (e ∙ ap (λ d. q.numerator *ℤ pos d) both.1))
    both.1

pub Reduces-self : (p : Fraction) → IsInLowestTerms p → Reduces p p
Reduces-self p h = record { lowest = h; same = refl }

-- a fraction has one form in lowest terms
pub Reduces-unique : (p q r : Fraction) → 0 < p.denominator → Reduces p q → Reduces p r → q ≡ r
Reduces-unique p q r h i j =
    lowest_terms_equal q r i.lowest j.lowest (IsSameValue-trans q p r h (sym i.same) j.same)

-- fractions of one value have one form in lowest terms
pub Reduces-same : (p p' q : Fraction) → 0 < p.denominator → IsSameValue p' p → Reduces p q → Reduces p' q
Reduces-same p p' q h e i = record { lowest = i.lowest; same = IsSameValue-trans p' p q h e i.same }
