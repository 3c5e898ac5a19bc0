-- The ring's operations on whole numbers.
use Rattle.std.proofs.Common.{◌≡◌, ℕ, suc, zero, ◌+◌, ◌*◌, ◌<◌, ◌≤◌, ◌^◌, ℤ, pos, ◌+ℤ◌, ◌*ℤ◌, neg_ℤ, ap, arith}
use Rattle.alg_sums.specs.Size.{size_of, IsScaled}
use Rattle.alg_sums.proofs.Sizes.{scaled_size}
use Rattle.std.specs.Prelude.{unsigned_abs}
use Rattle.std.proofs.lemmas.Int.{ints}
use Rattle.alg_sums.specs.Ratio.{Ratio}
use Rattle.alg_sums.specs.RatioRing.{whole_number, whole_plus, whole_times, whole_minus, whole_zero, whole_one}
use Rattle.alg_sums.specs.Rational.{rational}
use Rattle.alg_horner.specs.Facts.{CanAdd, CanMultiply, CanNegate}

pub nil_is : whole_number (pos 0) ≡ rational.nil
unfolding rational
nil_is = whole_zero

pub one_is : whole_number (pos 1) ≡ rational.one
unfolding rational
one_is = whole_one

pub plus_is : (a b : ℤ) → whole_number (a +ℤ b) ≡ rational.plus (whole_number a) (whole_number b)
unfolding rational
plus_is a b = whole_plus a b

pub times_is : (a b : ℤ) → whole_number (a *ℤ b) ≡ rational.times (whole_number a) (whole_number b)
unfolding rational
times_is a b = whole_times a b

pub minus_is : (a : ℤ) → whole_number (neg_ℤ a) ≡ rational.minus (whole_number a)
unfolding rational
minus_is a = whole_minus a

turn : (x d : ℕ) → x * d ≡ d * x
turn x d = omega arith

once : (d : ℕ) → d ≡ d * 1
once d = omega arith

whole_scaled : (d : ℕ) (a : ℤ) → IsScaled rational d (whole_number a) (unsigned_abs a * d)
unfolding rational
whole_scaled d a = record { by = d; over = once d; size = turn (unsigned_abs a) d }

pub size_is : (d : ℕ) (a : ℤ) → size_of rational d (whole_number a) ≡ unsigned_abs a * d
size_is d a = scaled_size rational d (whole_number a) (unsigned_abs a * d) (whole_scaled d a)

pub number_is : (a b : ℤ) → whole_number a ≡ whole_number b → a ≡ b
number_is a b e = ap (λ (x : Ratio). x.top) e

abs_plus : (a b : ℤ) → unsigned_abs (a +ℤ b) ≤ unsigned_abs a + unsigned_abs b
abs_plus a b = omega (arith, ints)

unscaled : (d x n : ℕ) → 0 < d → x * d ≤ n → x ≤ n
unscaled zero x n h l = absurd (omega arith)
unscaled (suc d) x n h l = omega (arith, l)

pub sum_small : (a b : ℤ) → CanAdd rational (whole_number a) (whole_number b) → unsigned_abs (a +ℤ b) ≤ 2 ^ 126
sum_small a b c =
    let d = c.denominator in
    let f : (unsigned_abs a + unsigned_abs b) * d ≤ 2 ^ 126 = omega (arith, size_is d a, size_is d b, c.small) in
    let g = unscaled d (unsigned_abs a + unsigned_abs b) (2 ^ 126) c.positive f in
    omega (arith, g, abs_plus a b)

pub product_small : (a b : ℤ) → CanMultiply rational (whole_number a) (whole_number b) → unsigned_abs (a *ℤ b) ≤ 2 ^ 126
product_small a b c =
    let d = c.denominator in
    let p = ap (λ x. size_of rational d x) (times_is a b) in
    let f : unsigned_abs (a *ℤ b) * d ≤ 2 ^ 126 = omega (arith, p, size_is d (a *ℤ b), c.small) in
    unscaled d (unsigned_abs (a *ℤ b)) (2 ^ 126) c.positive f

pub negative_small : (a : ℤ) → CanNegate rational (whole_number a) → unsigned_abs a ≤ 2 ^ 126
negative_small a c =
    let d = c.denominator in
    let f : unsigned_abs a * d ≤ 2 ^ 126 = omega (arith, size_is d a, c.small) in
    unscaled d (unsigned_abs a) (2 ^ 126) c.positive f
