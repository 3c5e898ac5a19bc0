-- Laws of the function that reduces a fraction.
use Rattle.std.proofs.Common.{◌≡◌, ℕ, zero, suc, ◌*◌, ◌/◌, ◌%◌, ◌<◌, ◌≤◌, ℤ, pos, negsuc, neg_ℤ, ◌*ℤ◌, Bool, true, false, cond, arith, refl, ap, sym, ◌∙◌, subst, mod-lt}
use Rattle.std.specs.Prelude.{unsigned_abs, int_lt as lt_z}
use Rattle.std.specs.Int.{IsGcd}
use Rattle.std.proofs.lemmas.Int.{ints}
use Rattle.std.proofs.lemmas.Nat.Gcd.{IsGcd-from_mod, IsGcd-from_zero}
use Rattle.std.proofs.Math.Nat.{div-mul_cancel}
use Rattle.alg_num.proofs.IntegerLaws.{positive_factor, neg_ℤ-*ℤ}
use Rattle.alg_num.proofs.CoprimeLaws.{gcd_positive, coprime_quotients}
use Rattle.alg_num.specs.Fraction.{Fraction, IsSameValue}
use Rattle.alg_num.specs.LowestTerms.{IsInLowestTerms, Reduces}
use Rattle.alg_num.proofs.LowestTermsLaws.{Reduces-unique, Reduces-same, Reduces-self}
use Rattle.alg_num.specs.Reduced.{divisor_by_steps, greatest_divisor, quotient, reduced}

-- the number of a size, below 0 or not
abbrev pub signed : Bool → ℕ → ℤ
signed t n = cond t (neg_ℤ (pos n)) (pos n)

pub unsigned_abs-signed : (t : Bool) (n : ℕ) → unsigned_abs (signed t n) ≡ n
unsigned_abs-signed true zero = refl
unsigned_abs-signed true (suc n) = refl
unsigned_abs-signed false n = refl

pub as_signed : (z : ℤ) (t : Bool) → lt_z z (pos 0) ≡ t → z ≡ signed t (unsigned_abs z)
as_signed (pos n) true h = absurd (omega (arith, ints, h))
as_signed (pos n) false h = refl
as_signed (negsuc n) true h = refl
as_signed (negsuc n) false h = cc

signed-times : (t : Bool) (p g : ℕ) → signed t p *ℤ pos g ≡ signed t (p * g)
signed-times true p g = neg_ℤ-*ℤ (pos p) (pos g)
signed-times false p g = refl

same_after_division : (t : Bool) (a b p q g : ℕ) → p * g ≡ a → q * g ≡ b → signed t a *ℤ pos q ≡ signed t p *ℤ pos b
same_after_division t a b p q g h i =
    signed-times t a q
    ∙ ap (signed t) (omega (arith, h, i, ap (λ x. x * q) h, ap (λ x. p * x) i))
    ∙ sym (signed-times t p b)

-- a fraction whose numbers are divided by their greatest common divisor
pub reduction : (z : ℤ) (b g n : ℕ) (r : ℤ) → 0 < b → n ≡ unsigned_abs z → IsGcd n b g → r ≡ signed (lt_z z (pos 0)) (n / g) → Reduces (record { numerator = z; denominator = b }) (record { numerator = r; denominator = b / g })
reduction z b g n r h e i j =
    let t = lt_z z (pos 0) in
    let x : n / g * g ≡ n = div-mul_cancel g i.0 in
    let y : b / g * g ≡ b = div-mul_cancel g i.1 in
    let size : unsigned_abs r ≡ n / g = ap unsigned_abs j ∙ unsigned_abs-signed t (n / g) in
    let P : ℕ → Type 0 = λ m. IsGcd m (b / g) 1 in
    record {
      lowest = record { positive = positive_factor (b / g) g b h y; coprime = subst P (sym size) (coprime_quotients n b g (gcd_positive n b g h i) i) };
      same = ap (λ m. m *ℤ pos (b / g)) (as_signed z t refl ∙ ap (signed t) (sym e)) ∙ same_after_division t n b (n / g) (b / g) g x y ∙ ap (λ m. m *ℤ pos b) (sym j);
    }

divides_by_steps : (n a b : ℕ) → b ≤ n → IsGcd a b (divisor_by_steps n a b)
unfolding divisor_by_steps
divides_by_steps n a zero h = IsGcd-from_zero a 0 refl
divides_by_steps zero a (suc b) h = absurd (omega arith)
divides_by_steps (suc n) a (suc b) h =
    let below : a % suc b < suc b = mod-lt a (omega arith) in
    IsGcd-from_mod a (suc b) (divisor_by_steps n (suc b) (a % suc b)) (divides_by_steps n (suc b) (a % suc b) (omega arith))

pub IsGcd-greatest_divisor : (a b : ℕ) → IsGcd a b (greatest_divisor a b)
unfolding greatest_divisor
IsGcd-greatest_divisor a b = divides_by_steps b a b (omega arith)

quotient_signed : (z : ℤ) (g : ℕ) (t : Bool) → lt_z z (pos 0) ≡ t → quotient z g ≡ signed t (unsigned_abs z / g)
quotient_signed (pos n) g true h = absurd (omega (arith, ints, h))
quotient_signed (pos n) g false h = refl
quotient_signed (negsuc n) g true h = refl
quotient_signed (negsuc n) g false h = cc

pub Reduces-reduced : (p : Fraction) → 0 < p.denominator → Reduces p (reduced p)
unfolding reduced
Reduces-reduced p h =
    let n = unsigned_abs p.numerator in
    let g = greatest_divisor n p.denominator in
    reduction p.numerator p.denominator g n (quotient p.numerator g) h refl (IsGcd-greatest_divisor n p.denominator) (quotient_signed p.numerator g (lt_z p.numerator (pos 0)) refl)

-- the form in lowest terms is that of the function
pub reduced_is : (p q : Fraction) → 0 < p.denominator → Reduces p q → q ≡ reduced p
reduced_is p q h i = Reduces-unique p q (reduced p) h i (Reduces-reduced p h)

pub reduced_of_lowest : (p : Fraction) → IsInLowestTerms p → reduced p ≡ p
reduced_of_lowest p h = sym (reduced_is p p h.positive (Reduces-self p h))

-- fractions of one value reduce to one
pub reduced_same_value : (p q : Fraction) → 0 < p.denominator → 0 < q.denominator → IsSameValue p q → reduced p ≡ reduced q
reduced_same_value p q h i e = reduced_is q (reduced p) i (Reduces-same p q (reduced p) h (sym e) (Reduces-reduced p h))
