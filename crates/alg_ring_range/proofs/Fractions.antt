-- The operations on ratios, as those on fractions.
use Rattle.std.proofs.Common.{◌≡◌, ℕ, zero, suc, ◌<◌, refl, ap, sym, subst, ◌∙◌, arith, Bool, true, false, cond, Option, Some, None}
use Rattle.std.specs.Prelude.{option_map, unsigned_abs, if◌then◌else◌}
use Rattle.std.proofs.Math.Nat.{pow-zero, pow-suc}
use Rattle.alg_num.specs.Fraction.{Fraction, IsSameValue}
use Rattle.alg_num.specs.Reduced.{reduced}
use Rattle.alg_num.specs.Sum.{sum_of}
use Rattle.alg_num.specs.Product.{product_of}
use Rattle.alg_num.specs.Power.{power_of}
use Rattle.alg_num.specs.Negative.{negative_of}
use Rattle.alg_num.proofs.LowestTermsLaws.{lowest_terms_equal, IsSameValue-trans}
use Rattle.alg_num.proofs.ReducedLaws.{Reduces-reduced}
use Rattle.alg_num.proofs.FractionLaws.{product_of-same}
use Rattle.alg_num.proofs.PowerLaws.{int_pow-zero, int_pow-suc, positive_power}
use Rattle.alg_sums.specs.Ratio.{Ratio, fraction, lowest, plus, times, plus-value, times-value, product_positive}
use Rattle.alg_sums.specs.RatioRing.{minus}
use Rattle.alg_sums.specs.Inverse.{inverse_of}
use Rattle.alg_sums.specs.Rational.{rational, inverse, fraction-inverse}
use Rattle.alg_sums.specs.RatioRing as ring
use Rattle.alg_expansions.specs.Closed as closed
use Rattle.alg_ring_range.specs.Fractions.{whole, sum_fraction, negated_fraction, product_fraction, power_fraction}

-- a ratio is the reduced form of each fraction of its value
reduced_is : (a : Ratio) (p : Fraction) → 0 < p.denominator → IsSameValue (fraction a) p → fraction a ≡ reduced p
reduced_is a p h e =
    let r = Reduces-reduced p h in
    lowest_terms_equal (fraction a) (reduced p) (lowest a) r.lowest (IsSameValue-trans (fraction a) p (reduced p) h e r.same)

pub fraction-plus : (a b : Ratio) → fraction (plus a b) ≡ reduced (sum_of (fraction a) (fraction b))
fraction-plus a b = reduced_is (plus a b) (sum_of (fraction a) (fraction b)) (product_positive a.under b.under) (plus-value a b)

pub fraction-times : (a b : Ratio) → fraction (times a b) ≡ reduced (product_of (fraction a) (fraction b))
fraction-times a b = reduced_is (times a b) (product_of (fraction a) (fraction b)) (product_positive a.under b.under) (times-value a b)

above : (n : ℕ) → 0 < suc n
above n = omega arith

pub fraction-minus : (a : Ratio) → fraction (minus a) ≡ reduced (negative_of (fraction a))
unfolding minus
fraction-minus a = reduced_is (minus a) (negative_of (fraction a)) (above a.under) refl

itself : (a : Ratio) (p : Fraction) → fraction a ≡ p → fraction a ≡ reduced p
itself a p e = reduced_is a p (subst (λ q. 0 < q.denominator) e (above a.under)) (subst (IsSameValue (fraction a)) e refl)

pub fraction-inverse_reduced : (a : Ratio) → fraction (inverse a) ≡ reduced (inverse_of (fraction a))
fraction-inverse_reduced a = itself (inverse a) (inverse_of (fraction a)) (fraction-inverse a)

power_value : (a : Ratio) (n : ℕ) → IsSameValue (fraction (closed.power_of rational a n)) (power_of (fraction a) n)
unfolding rational ring.one
power_value a zero = rw (pow-zero (suc a.under), int_pow-zero a.top) refl
power_value a (suc n) =
    let b = closed.power_of rational a n in
    let p = power_of (fraction a) n in
    rw (pow-suc (suc a.under) n, int_pow-suc a.top n)
    (IsSameValue-trans (fraction (times b a)) (product_of (fraction b) (fraction a)) (product_of p (fraction a)) (product_positive b.under a.under) (times-value b a)
    (product_of-same (fraction b) p (fraction a) (fraction a) (power_value a n) refl))

pub fraction-power : (a : Ratio) (n : ℕ) → fraction (closed.power_of rational a n) ≡ reduced (power_of (fraction a) n)
fraction-power a n = reduced_is (closed.power_of rational a n) (power_of (fraction a) n) (positive_power (suc a.under) n (above a.under)) (power_value a n)

-- the same of what may be lacking

abbrev pub as_fraction : Option Ratio → Option Fraction
as_fraction o = option_map fraction o

pub as-literal : (b : Bool) (n : ℕ) → (if b then Some (whole n) else None) ≡ as_fraction (cond b (Some (rational.number n)) None)
unfolding rational
as-literal true n = refl
as-literal false n = refl

pub as-sum : (o p : Option Ratio) → sum_fraction (as_fraction o) (as_fraction p) ≡ as_fraction (closed.both rational.plus o p)
unfolding rational
as-sum (Some a) (Some b) = ap Some (sym (fraction-plus a b))
as-sum (Some a) None = refl
as-sum None (Some b) = refl
as-sum None None = refl

pub as-difference : (o p : Option Ratio) → sum_fraction (as_fraction o) (negated_fraction (as_fraction p)) ≡ as_fraction (closed.both (λ x y. rational.plus x (rational.minus y)) o p)
unfolding rational
as-difference (Some a) (Some b) = ap Some (ap (λ q. reduced (sum_of (fraction a) q)) (sym (fraction-minus b)) ∙ sym (fraction-plus a (minus b)))
as-difference (Some a) None = refl
as-difference None (Some b) = refl
as-difference None None = refl

pub as-product : (o p : Option Ratio) → product_fraction (as_fraction o) (as_fraction p) ≡ as_fraction (closed.both rational.times o p)
unfolding rational
as-product (Some a) (Some b) = ap Some (sym (fraction-times a b))
as-product (Some a) None = refl
as-product None (Some b) = refl
as-product None None = refl

pub as-quotient : (o : Option Ratio) (b : Ratio) → product_fraction (as_fraction o) (Some (reduced (inverse_of (fraction b)))) ≡ as_fraction (closed.both (λ x y. rational.times x (rational.inverse y)) o (Some b))
unfolding rational
as-quotient (Some a) b = ap Some (ap (λ q. reduced (product_of (fraction a) q)) (sym (fraction-inverse_reduced b)) ∙ sym (fraction-times a (inverse b)))
as-quotient None b = refl

pub as-no_quotient : (o : Option Ratio) → None ≡ as_fraction (closed.both (λ x y. rational.times x (rational.inverse y)) o None)
as-no_quotient (Some a) = refl
as-no_quotient None = refl

pub as-negation : (o : Option Ratio) → negated_fraction (as_fraction o) ≡ as_fraction (option_map rational.minus o)
unfolding rational
as-negation (Some a) = ap Some (sym (fraction-minus a))
as-negation None = refl

pub as-inverse : (a : Ratio) → reduced (inverse_of (fraction a)) ≡ fraction (rational.inverse a)
unfolding rational
as-inverse a = sym (fraction-inverse_reduced a)

pub as-power : (o : Option Ratio) (n : ℕ) → power_fraction (as_fraction o) n ≡ as_fraction (closed.closed_power rational o (Some n))
as-power (Some a) n = ap Some (sym (fraction-power a n))
as-power None n = refl

pub as-no_power : (o : Option Ratio) → None ≡ as_fraction (closed.closed_power rational o None)
as-no_power (Some a) = refl
as-no_power None = refl

-- the numbers of an inverse
pub bottom-inverse : (a : Ratio) → (inverse_of (fraction a)).denominator ≡ rational.bottom (rational.inverse a)
unfolding rational
bottom-inverse a = ap (λ (q : Fraction). q.denominator) (sym (fraction-inverse a))

pub top-inverse : (a : Ratio) → unsigned_abs (inverse_of (fraction a)).numerator ≡ rational.top (rational.inverse a)
unfolding rational
top-inverse a = ap (λ (q : Fraction). unsigned_abs q.numerator) (sym (fraction-inverse a))
