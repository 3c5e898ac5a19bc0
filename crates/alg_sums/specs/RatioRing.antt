-- The ring of ratios.
use Rattle.std.proofs.Common.{◌≡◌, ℕ, suc, ◌+◌, ◌*◌, ℤ, pos, ◌+ℤ◌, ◌*ℤ◌, neg_ℤ, Bool, true, arith, refl, ap, ap₂, sym, ◌∙◌, subst}
use Rattle.std.specs.Prelude.{unsigned_abs, ◌==◌}
use Rattle.std.proofs.lemmas.Int.{ints}
use Rattle.std.proofs.Math.Nat.{one-dvd}
use Rattle.alg_num.proofs.IntegerLaws.{as_difference, differences, difference-same}
use Rattle.alg_num.specs.Fraction.{IsSameValue}
use Rattle.alg_num.proofs.LowestTermsLaws.{IsSameValue-sym, IsSameValue-trans}
use Rattle.alg_num.specs.Sum.{sum_of}
use Rattle.alg_num.specs.Product.{product_of}
use Rattle.alg_num.proofs.FractionLaws.{product_of-comm, product_of-assoc, product_of-same}
use Rattle.alg_num.specs.Reduced.{greatest_divisor, divisor_by_steps}
use Rattle.alg_sums.specs.Ratio.{Ratio, fraction, are_coprime, coprime_of, ratio_equal, plus, times, plus-value, times-value, product_positive, three_positive}

pub coprime_zero : are_coprime (pos 0) 1 ≡ true
unfolding greatest_divisor divisor_by_steps
coprime_zero = refl

pub coprime_one : are_coprime (pos 1) 1 ≡ true
unfolding greatest_divisor divisor_by_steps
coprime_one = refl

unfoldable pub nil : Ratio
nil = record { top = pos 0; under = 0; coprime = coprime_zero }

unfoldable pub one : Ratio
one = record { top = pos 1; under = 0; coprime = coprime_one }

pub abs_minus : (a : ℤ) → unsigned_abs (neg_ℤ a) ≡ unsigned_abs a
abs_minus a = omega (arith, ints)

unfoldable pub minus : Ratio → Ratio
minus a = record { top = neg_ℤ a.top; under = a.under; coprime = ap (λ n. greatest_divisor n (suc a.under) == 1) (abs_minus a.top) ∙ a.coprime }

pub times_comm : (a b : Ratio) → times a b ≡ times b a
times_comm a b =
    ratio_equal (times a b) (times b a)
    (IsSameValue-trans (fraction (times a b)) (product_of (fraction a) (fraction b)) (fraction (times b a)) (product_positive a.under b.under) (times-value a b)
    (let s = times-value b a in subst (λ p. IsSameValue p (fraction (times b a))) (product_of-comm (fraction b) (fraction a)) (IsSameValue-sym (fraction (times b a)) (product_of (fraction b) (fraction a)) s)))

left_value : (a b c : Ratio) → IsSameValue (fraction (times (times a b) c)) (product_of (product_of (fraction a) (fraction b)) (fraction c))
left_value a b c =
    IsSameValue-trans (fraction (times (times a b) c)) (product_of (fraction (times a b)) (fraction c)) (product_of (product_of (fraction a) (fraction b)) (fraction c)) (product_positive (times a b).under c.under)
    (times-value (times a b) c)
    (product_of-same (fraction (times a b)) (product_of (fraction a) (fraction b)) (fraction c) (fraction c) (times-value a b) refl)

right_value : (a b c : Ratio) → IsSameValue (fraction (times a (times b c))) (product_of (fraction a) (product_of (fraction b) (fraction c)))
right_value a b c =
    IsSameValue-trans (fraction (times a (times b c))) (product_of (fraction a) (fraction (times b c))) (product_of (fraction a) (product_of (fraction b) (fraction c))) (product_positive a.under (times b c).under)
    (times-value a (times b c))
    (product_of-same (fraction a) (fraction a) (fraction (times b c)) (product_of (fraction b) (fraction c)) refl (times-value b c))

pub times_assoc : (a b c : Ratio) → times (times a b) c ≡ times a (times b c)
times_assoc a b c =
    ratio_equal (times (times a b) c) (times a (times b c))
    (IsSameValue-trans (fraction (times (times a b) c)) (product_of (fraction a) (product_of (fraction b) (fraction c))) (fraction (times a (times b c))) (three_positive a.under b.under c.under)
    (subst (λ p. IsSameValue (fraction (times (times a b) c)) p) (product_of-assoc (fraction a) (fraction b) (fraction c)) (left_value a b c))
    (IsSameValue-sym (fraction (times a (times b c))) (product_of (fraction a) (product_of (fraction b) (fraction c))) (right_value a b c)))

nil_sum : (n : ℤ) (x : ℕ) → (n *ℤ pos 1 +ℤ pos 0 *ℤ pos x) *ℤ pos x ≡ n *ℤ pos (x * 1)
nil_sum n x = rw (as_difference n) (simp differences (difference-same _ _ _ _ (omega arith)))

pub plus_nil : (a : Ratio) → plus a nil ≡ a
unfolding nil
plus_nil a =
    ratio_equal (plus a nil) a
    (IsSameValue-trans (fraction (plus a nil)) (sum_of (fraction a) (fraction nil)) (fraction a) (product_positive a.under nil.under) (plus-value a nil) (nil_sum a.top (suc a.under)))

one_product : (n : ℤ) (x : ℕ) → (n *ℤ pos 1) *ℤ pos x ≡ n *ℤ pos (x * 1)
one_product n x = rw (as_difference n) (simp differences (difference-same _ _ _ _ (omega arith)))

pub times_one : (a : Ratio) → times a one ≡ a
unfolding one
times_one a =
    ratio_equal (times a one) a
    (IsSameValue-trans (fraction (times a one)) (product_of (fraction a) (fraction one)) (fraction a) (product_positive a.under one.under) (times-value a one) (one_product a.top (suc a.under)))

minus_sum : (n : ℤ) (x : ℕ) → (n *ℤ pos x +ℤ neg_ℤ n *ℤ pos x) *ℤ pos 1 ≡ pos 0 *ℤ pos (x * x)
minus_sum n x = rw (as_difference n) (simp differences (difference-same _ _ _ _ (omega arith)))

pub plus_minus : (a : Ratio) → plus a (minus a) ≡ nil
unfolding nil minus
plus_minus a =
    ratio_equal (plus a (minus a)) nil
    (IsSameValue-trans (fraction (plus a (minus a))) (sum_of (fraction a) (fraction (minus a))) (fraction nil) (product_positive a.under (minus a).under) (plus-value a (minus a)) (minus_sum a.top (suc a.under)))

pub one_nil : one ≡ nil → ⊥
unfolding one nil
one_nil e = let f : pos 1 ≡ pos 0 = ap (λ (a : Ratio). a.top) e in absurd (omega (arith, ints, ap unsigned_abs f))

pub parts : (n m : ℤ) (x y k l : ℕ) → (n *ℤ m) *ℤ pos ((k * x) * (l * y)) ≡ ((n *ℤ pos k) *ℤ (m *ℤ pos l)) *ℤ pos (x * y)
parts n m x y k l = rw (as_difference n, as_difference m) (simp differences (difference-same _ _ _ _ (omega arith)))

pub product_over : (n m : ℤ) (x y k l d e : ℕ) → d ≡ k * x → e ≡ l * y → (n *ℤ m) *ℤ pos (d * e) ≡ ((n *ℤ pos k) *ℤ (m *ℤ pos l)) *ℤ pos (x * y)
product_over n m x y k l d e f g = ap₂ (λ u v. (n *ℤ m) *ℤ pos (u * v)) f g ∙ parts n m x y k l

abbrev pub is_nil : Ratio → Bool
is_nil a = unsigned_abs a.top == 0

zero_by : (n : ℕ) → (n == 0) ≡ true → n ≡ 0
zero_by n e = grind (arith, e)

top_zero : (z : ℤ) → unsigned_abs z ≡ 0 → z ≡ pos 0
top_zero z e = omega (arith, ints, e)

zero_product : (x : ℕ) → pos 0 *ℤ pos 1 ≡ pos 0 *ℤ pos x
zero_product x = omega (arith, ints)

pub nil_is : (a : Ratio) → is_nil a ≡ true → a ≡ nil
unfolding nil
nil_is a e = ratio_equal a nil (ap (λ z. z *ℤ pos 1) (top_zero a.top (zero_by (unsigned_abs a.top) e)) ∙ zero_product (suc a.under))

pub is_nil-nil : is_nil nil ≡ true
unfolding nil
is_nil-nil = refl

pub coprime_whole : (z : ℤ) → are_coprime z 1 ≡ true
coprime_whole z = coprime_of z 1 (record { positive = omega arith; coprime = (one-dvd (unsigned_abs z), one-dvd 1, λ e p q. q) })

-- a whole number as a ratio
abbrev pub whole_number : ℤ → Ratio
whole_number z = record { top = z; under = 0; coprime = coprime_whole z }

whole_sum : (a b : ℤ) → (a *ℤ pos 1 +ℤ b *ℤ pos 1) *ℤ pos 1 ≡ (a +ℤ b) *ℤ pos (1 * 1)
whole_sum a b = rw (as_difference a, as_difference b) (simp differences (difference-same _ _ _ _ (omega arith)))

pub whole_plus : (a b : ℤ) → whole_number (a +ℤ b) ≡ plus (whole_number a) (whole_number b)
whole_plus a b = sym (ratio_equal (plus (whole_number a) (whole_number b)) (whole_number (a +ℤ b))
    (IsSameValue-trans (fraction (plus (whole_number a) (whole_number b))) (sum_of (fraction (whole_number a)) (fraction (whole_number b))) (fraction (whole_number (a +ℤ b))) (product_positive 0 0) (plus-value (whole_number a) (whole_number b)) (whole_sum a b)))

whole_product : (a b : ℤ) → (a *ℤ b) *ℤ pos 1 ≡ (a *ℤ b) *ℤ pos (1 * 1)
whole_product a b = refl

pub whole_times : (a b : ℤ) → whole_number (a *ℤ b) ≡ times (whole_number a) (whole_number b)
whole_times a b = sym (ratio_equal (times (whole_number a) (whole_number b)) (whole_number (a *ℤ b))
    (IsSameValue-trans (fraction (times (whole_number a) (whole_number b))) (product_of (fraction (whole_number a)) (fraction (whole_number b))) (fraction (whole_number (a *ℤ b))) (product_positive 0 0) (times-value (whole_number a) (whole_number b)) (whole_product a b)))

pub whole_minus : (a : ℤ) → whole_number (neg_ℤ a) ≡ minus (whole_number a)
unfolding minus
whole_minus a = ratio_equal (whole_number (neg_ℤ a)) (minus (whole_number a)) refl

pub whole_zero : whole_number (pos 0) ≡ nil
unfolding nil
whole_zero = ratio_equal (whole_number (pos 0)) nil refl

pub whole_one : whole_number (pos 1) ≡ one
unfolding one
whole_one = ratio_equal (whole_number (pos 1)) one refl
