-- The power of a fraction in lowest terms is in lowest terms: numerator and denominator apart.
use Rattle.std.proofs.Common.{◌≡◌, ℕ, zero, suc, ◌*◌, ◌<◌, ◌^◌, arith}
use Rattle.std.specs.Prelude.{unsigned_abs}
use Rattle.std.specs.Int.{IsGcd}
use Rattle.std.proofs.Math.Nat.{pow-zero, pow-suc, one-dvd, mul-lt-mul_of_pos_left}
use Rattle.alg_num.specs.Fraction.{Fraction}
use Rattle.alg_num.specs.LowestTerms.{IsInLowestTerms, Reduces}
use Rattle.alg_num.specs.Power.{power_of}
use Rattle.alg_num.proofs.CoprimeLaws.{coprime_product}
use Rattle.alg_num.proofs.PowerLaws.{unsigned_abs-int_pow, positive_power}
use Rattle.alg_num.proofs.LowestTermsLaws.{Reduces-self, Reduces-unique}

coprime-turned : (a b : ℕ) → IsGcd a b 1 → IsGcd b a 1
coprime-turned a b h = (h.1, h.0, λ d i j. h.2 d j i)

-- a power is coprime to what its base is coprime to
coprime-power : (a c n : ℕ) → IsGcd a c 1 → IsGcd (a ^ n) c 1
coprime-power a c zero h = rw (pow-zero a) (one-dvd 1, one-dvd c, λ d i j. i)
coprime-power a c (suc n) h = rw (pow-suc a n) (coprime_product (a ^ n) a c (coprime-power a c n h) h)

coprime-powers : (a c n : ℕ) → IsGcd a c 1 → IsGcd (a ^ n) (c ^ n) 1
coprime-powers a c n h = coprime-turned (c ^ n) (a ^ n) (coprime-power c (a ^ n) n (coprime-turned (a ^ n) c (coprime-power a c n h)))

pub power-lowest : (x : Fraction) (n : ℕ) → IsInLowestTerms x → IsInLowestTerms (power_of x n)
power-lowest x n h = record {
  positive = positive_power x.denominator n h.positive;
  coprime = rw (unsigned_abs-int_pow x.numerator n) (coprime-powers (unsigned_abs x.numerator) x.denominator n h.coprime);
}

-- so it is what it reduces to
pub power-reduced : (x z : Fraction) (n : ℕ) → IsInLowestTerms x → Reduces (power_of x n) z → z ≡ power_of x n
power-reduced x z n h r =
    let l = power-lowest x n h in
    Reduces-unique (power_of x n) z (power_of x n) l.positive r (Reduces-self (power_of x n) l)

-- the power of a denominator that isn't 1 isn't 1
pub power-above-one : (d n : ℕ) → 1 < d → 0 < n → 1 < d ^ n
power-above-one d zero h i = absurd (omega (arith, i))
power-above-one d (suc n) h i =
    let p : 0 < d ^ n = positive_power d n (omega (arith, h)) in
    let q : d ^ n * 1 < d ^ n * d = mul-lt-mul_of_pos_left h p in
    rw (pow-suc d n) (omega (arith, p, q))
