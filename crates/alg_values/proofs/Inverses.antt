-- The inverse of a fraction.
use Rattle.std.proofs.Common.{◌≡◌, ◌*◌, ℕ, zero, suc, ℤ, pos, negsuc, neg_ℤ, ◌*ℤ◌, refl, sym, ap, ◌∙◌, subst, arith}
use Rattle.std.specs.Prelude.{unsigned_abs}
use Rattle.std.specs.Int.{IsGcd}
use Rattle.std.proofs.lemmas.Int.{ints}
use Rattle.std.proofs.lemmas.Nat.Gcd.{IsGcd-swap}
use Rattle.std.proofs.Math.IntN.{*ℤ_comm}
use Rattle.alg_num.specs.Fraction.{Fraction, IsSameValue}
use Rattle.alg_num.specs.LowestTerms.{IsInLowestTerms}
use Rattle.alg_num.specs.Inverse.{IsInverse}
use Rattle.alg_num.proofs.IntegerLaws.{neg_ℤ-*ℤ}
use Rattle.alg_num.proofs.LowestTermsLaws.{lowest_terms_equal}
use Rattle.alg_num.proofs.WholeNumbers.{whole_lowest}
use Rattle.alg_values.specs.Arithmetic.{inverse_of, inverted}

abbrev fraction : ℤ → ℕ → Fraction
fraction z d = record { numerator = z; denominator = d }

size-neg : (d : ℕ) → unsigned_abs (neg_ℤ (pos d)) ≡ d
size-neg zero = refl
size-neg (suc d) = refl

product-neg : (n d : ℕ) → negsuc n *ℤ neg_ℤ (pos d) ≡ pos (d * suc n)
product-neg n zero = omega (arith, ints)
product-neg n (suc d) = ap pos (omega arith)

inverts : (z : ℤ) (d : ℕ) → IsInLowestTerms (fraction z d) → IsInverse (fraction z d) (inverted z d)
inverts (pos zero) d h = record { lowest = whole_lowest (pos zero); at_zero = λ _. refl; elsewhere = λ n. absurd (n refl) }
inverts (pos (suc n)) d h = record {
  lowest = record { positive = omega arith; coprime = IsGcd-swap (suc n) d 1 h.coprime };
  at_zero = λ e. cc;
  elsewhere = λ _. ap pos (omega arith);
}
inverts (negsuc n) d h =
    let P : ℕ → Type 0 = λ m. IsGcd m (suc n) 1 in
    record {
      lowest = record { positive = omega arith; coprime = subst P (sym (size-neg d)) (IsGcd-swap (suc n) d 1 h.coprime) };
      at_zero = λ e. cc;
      elsewhere = λ _. product-neg n d;
    }

pub inverse_of-inverts : (p : Fraction) → IsInLowestTerms p → IsInverse p (inverse_of p)
inverse_of-inverts p h = inverts p.numerator p.denominator h

same : (z : ℤ) (d : ℕ) (q : Fraction) → IsInverse (fraction z d) q → IsSameValue q (inverted z d)
same (pos zero) d q i =
    let P : ℤ → Type 0 = λ x. x *ℤ pos 1 ≡ pos 0 *ℤ pos q.denominator in
    subst P (sym (i.at_zero refl)) (omega (arith, ints))
same (pos (suc n)) d q i = *ℤ_comm q.numerator (pos (suc n)) ∙ i.elsewhere (λ e. cc)
same (negsuc n) d q i =
    *ℤ_comm q.numerator (pos (suc n)) ∙ neg_ℤ-*ℤ (negsuc n) q.numerator ∙ ap neg_ℤ (i.elsewhere (λ e. cc)) ∙ sym (neg_ℤ-*ℤ (pos d) (pos q.denominator))

-- a fraction has no other inverse
pub inverse_is : (p q : Fraction) → IsInLowestTerms p → IsInverse p q → q ≡ inverse_of p
inverse_is p q h i = lowest_terms_equal q (inverse_of p) i.lowest (inverse_of-inverts p h).lowest (same p.numerator p.denominator q i)
