-- A product has its numeral where both factors have theirs.
use Rattle.std.proofs.Common.{◌≡◌, ℕ, zero, suc, ◌*◌, ◌<◌, ℤ, pos, negsuc, ◌≤ℤ◌, ◌<ℤ◌, arith, refl, sym, ap₂, subst}
use Rattle.std.specs.Prelude.{neg_ℤ}
use Rattle.std.specs.Int.{◌∣◌}
use Rattle.std.proofs.lemmas.Int.{ints}
use Rattle.std.proofs.lemmas.Nat.Gcd.{dvd_antisymm}
use Rattle.std.proofs.Math.Nat.{one-dvd}
use Rattle.alg_terms.specs.declared.sorts.Sort.{Sort}
use Rattle.alg_num.specs.Fraction.{Fraction}
use Rattle.alg_num.specs.LowestTerms.{IsInLowestTerms, Reduces}
use Rattle.alg_num.specs.Negative.{negative_of}
use Rattle.alg_num.specs.Product.{product_of}
use Rattle.alg_num.proofs.WholeNumbers.{whole_lowest}
use Rattle.alg_build.specs.Book.{Book}
use Rattle.alg_fraction_numbers.specs.Products.{size_of}
use Rattle.alg_numerals.specs.Numerals.{HasLiterals, HasSigns, SignsOf}
use Rattle.alg_numerals.proofs.WholeLemmas.{signs-whole}
use Rattle.alg_fractions.specs.Fractions.{HasFraction, HasQuotients, QuotientsOf}
use Rattle.alg_fraction_products.proofs.SignNumbers.{plus-plus, divides-product}

signs-from : (b : Book) (s : Sort) (u v w : ℤ) → SignsOf b s u → SignsOf b s v → (pos 0 ≤ℤ u → pos 0 ≤ℤ v → pos 0 ≤ℤ w) → SignsOf b s w
signs-from b s u v (pos n) h k f = tt
signs-from b s (negsuc a) v (negsuc n) h k f = h
signs-from b s (pos a) (negsuc c) (negsuc n) h k f = k
signs-from b s (pos a) (pos c) (negsuc n) h k f = absurd (omega (arith, ints, f (omega (arith, ints)) (omega (arith, ints))))

quotients-from : (b : Book) (s : Sort) (d e f : ℕ) → QuotientsOf b s d → QuotientsOf b s e → (d ≡ 1 → e ≡ 1 → f ≡ 1) → QuotientsOf b s f
quotients-from b s zero e zero h k g = h
quotients-from b s zero e (suc zero) h k g = tt
quotients-from b s zero e (suc (suc f)) h k g = h
quotients-from b s (suc (suc d)) e zero h k g = h
quotients-from b s (suc (suc d)) e (suc zero) h k g = tt
quotients-from b s (suc (suc d)) e (suc (suc f)) h k g = h
quotients-from b s (suc zero) zero zero h k g = k
quotients-from b s (suc zero) zero (suc zero) h k g = tt
quotients-from b s (suc zero) zero (suc (suc f)) h k g = k
quotients-from b s (suc zero) (suc (suc e)) zero h k g = k
quotients-from b s (suc zero) (suc (suc e)) (suc zero) h k g = tt
quotients-from b s (suc zero) (suc (suc e)) (suc (suc f)) h k g = k
quotients-from b s (suc zero) (suc zero) f h k g = subst (QuotientsOf b s) (sym (g refl refl)) tt

from-either : (b : Book) (s : Sort) (d e : ℕ) → QuotientsOf b s d → QuotientsOf b s e → (d ≡ 1 → e ≡ 1 → ⊥) → HasQuotients b s
from-either b s zero e h k n = h
from-either b s (suc (suc d)) e h k n = h
from-either b s (suc zero) zero h k n = k
from-either b s (suc zero) (suc zero) h k n = absurd (n refl refl)
from-either b s (suc zero) (suc (suc e)) h k n = k

-- a product of whole numbers is whole
whole-product : (x y z : Fraction) → IsInLowestTerms x → IsInLowestTerms y → Reduces (product_of x y) z → x.denominator ≡ 1 → y.denominator ≡ 1 → z.denominator ≡ 1
whole-product x y z h i r d e =
    let k : z.denominator ∣ 1 = subst (λ (m : ℕ). z.denominator ∣ m) (ap₂ (λ (m n : ℕ). m * n) d e) (divides-product x y z h i r) in
    dvd_antisymm k (one-dvd z.denominator)

pub product-has : (b : Book) (s : Sort) (x y z : Fraction) → IsInLowestTerms x → IsInLowestTerms y → HasFraction b s x → HasFraction b s y → Reduces (product_of x y) z → HasFraction b s z
product-has b s x y z h i k l r = record {
  whole = record { literals = k.whole.literals; signs = signs-from b s x.numerator y.numerator z.numerator k.whole.signs l.whole.signs (plus-plus x y z h i r) };
  quotients = quotients-from b s x.denominator y.denominator z.denominator k.quotients l.quotients (whole-product x y z h i r);
}

pub literal-has : (b : Book) (s : Sort) (n : ℕ) → HasLiterals b s → HasFraction b s (size_of n 1)
literal-has b s n h = record { whole = record { literals = h; signs = tt }; quotients = tt }

pub multiple-has : (b : Book) (s : Sort) (n : ℕ) (x z : Fraction) → IsInLowestTerms x → HasFraction b s x → Reduces (product_of (size_of n 1) x) z → HasFraction b s z
multiple-has b s n x z h k r = product-has b s (size_of n 1) x z (whole_lowest (pos n)) h (literal-has b s n k.whole.literals) k r

-- one of two fractions that isn't whole asks for quotients
pub either-quotients : (b : Book) (s : Sort) (x y : Fraction) → HasFraction b s x → HasFraction b s y → (x.denominator ≡ 1 → y.denominator ≡ 1 → ⊥) → HasQuotients b s
either-quotients b s x y h k n = from-either b s x.denominator y.denominator h.quotients k.quotients n

pub negative-has : (b : Book) (s : Sort) (q : Fraction) → HasSigns b s → HasFraction b s q → HasFraction b s (negative_of q)
negative-has b s q h k = record { whole = signs-whole b s (neg_ℤ q.numerator) h; quotients = k.quotients }
