-- Numerators of sums and products of ratios over common denominators.
use Rattle.std.proofs.Common.{◌≡◌, ℕ, suc, ◌+◌, ◌*◌, ◌/◌, ◌≤◌, ℤ, pos, ◌+ℤ◌, ◌*ℤ◌, arith, ap, ap₂, sym, subst, ◌∙◌}
use Rattle.std.specs.Prelude.{unsigned_abs}
use Rattle.std.specs.Int.{◌∣◌}
use Rattle.std.proofs.lemmas.Int.{ints, unsigned_abs-mul}
use Rattle.std.proofs.Math.Nat.{div-mul_cancel, dvd-mul_left}
use Rattle.alg_num.proofs.IntegerLaws.{as_difference, differences, difference-same, +ℤ-*ℤ, cancel_ℕ}
use Rattle.alg_num.proofs.CoprimeLaws.{divides_other}
use Rattle.alg_num.specs.Fraction.{IsSameValue}
use Rattle.alg_num.proofs.LowestTermsLaws.{IsSameValue-trans}
use Rattle.alg_num.specs.Sum.{sum_of}
use Rattle.alg_num.specs.Product.{product_of}
use Rattle.alg_sums.specs.Ratio.{Ratio, fraction, lowest, plus, times, plus-value, times-value, product_positive}
use Rattle.alg_sums.specs.RatioRing.{product_over}

first_part : (n : ℤ) (x y k : ℕ) → (n *ℤ pos y) *ℤ pos (k * x) ≡ (n *ℤ pos k) *ℤ pos (x * y)
first_part n x y k = rw (as_difference n) (simp differences (difference-same _ _ _ _ (omega arith)))

second_part : (m : ℤ) (x y l : ℕ) → (m *ℤ pos x) *ℤ pos (l * y) ≡ (m *ℤ pos l) *ℤ pos (x * y)
second_part m x y l = rw (as_difference m) (simp differences (difference-same _ _ _ _ (omega arith)))

-- the sum over the common denominator d
over : (n m : ℤ) (x y k l d : ℕ) → d ≡ k * x → d ≡ l * y → (n *ℤ pos y +ℤ m *ℤ pos x) *ℤ pos d ≡ (n *ℤ pos k +ℤ m *ℤ pos l) *ℤ pos (x * y)
over n m x y k l d e f =
    +ℤ-*ℤ (n *ℤ pos y) (m *ℤ pos x) (pos d)
    ∙ ap₂ (λ u v. (n *ℤ pos y) *ℤ pos u +ℤ (m *ℤ pos x) *ℤ pos v) e f
    ∙ ap₂ (λ u v. u +ℤ v) (first_part n x y k) (second_part m x y l)
    ∙ sym (+ℤ-*ℤ (n *ℤ pos k) (m *ℤ pos l) (pos (x * y)))

-- the ratio is z / d
pub record IsOver (s : Ratio) (z : ℤ) (d : ℕ) : Type 0 where
  pub by : ℕ
  pub over : d ≡ by * suc s.under
  pub size : by * unsigned_abs s.top ≡ unsigned_abs z

-- a denominator of some fraction of the value is one of the ratio
pub over_of_value : (s : Ratio) (z : ℤ) (d : ℕ) → IsSameValue (fraction s) (record { numerator = z; denominator = d }) → IsOver s z d
over_of_value s z d e =
    let n = unsigned_abs s.top in
    let f : n * d ≡ unsigned_abs z * suc s.under = sym (unsigned_abs-mul s.top (pos d)) ∙ ap unsigned_abs e ∙ unsigned_abs-mul z (pos (suc s.under)) in
    let P : ℕ → Type 0 = λ x. suc s.under ∣ x in
    let h : suc s.under ∣ d = divides_other n (suc s.under) d (lowest s).coprime (subst P (sym f) (dvd-mul_left (suc s.under) (unsigned_abs z))) in
    let k : d ≡ d / suc s.under * suc s.under = sym (div-mul_cancel (suc s.under) h) in
    let g : (n * (d / suc s.under)) * suc s.under ≡ unsigned_abs z * suc s.under = omega (arith, f, ap (λ x. n * x) k) in
    let c : d / suc s.under * n ≡ n * (d / suc s.under) = omega arith in
    record { by = d / suc s.under; over = k; size = c ∙ cancel_ℕ (n * (d / suc s.under)) (unsigned_abs z) (suc s.under) (omega arith) g }

abs_plus : (a b : ℤ) → unsigned_abs (a +ℤ b) ≤ unsigned_abs a + unsigned_abs b
abs_plus a b = omega (arith, ints)

abs_times : (z : ℤ) (k : ℕ) → unsigned_abs (z *ℤ pos k) ≡ k * unsigned_abs z
abs_times z k = unsigned_abs-mul z (pos k) ∙ (let c : unsigned_abs z * k ≡ k * unsigned_abs z = omega arith in c)

pub sum_over : (a b : Ratio) (d k l : ℕ) → d ≡ k * suc a.under → d ≡ l * suc b.under → IsOver (plus a b) (a.top *ℤ pos k +ℤ b.top *ℤ pos l) d
sum_over a b d k l e f =
    let z : ℤ = a.top *ℤ pos k +ℤ b.top *ℤ pos l in
    over_of_value (plus a b) z d
    (IsSameValue-trans (fraction (plus a b)) (sum_of (fraction a) (fraction b)) (record { numerator = z; denominator = d }) (product_positive a.under b.under) (plus-value a b) (over a.top b.top (suc a.under) (suc b.under) k l d e f))

pub scaled_plus : (a b : Ratio) (d k l : ℕ) → d ≡ k * suc a.under → d ≡ l * suc b.under → (m : ℕ) × (d ≡ m * suc (plus a b).under) × (m * unsigned_abs (plus a b).top ≤ k * unsigned_abs a.top + l * unsigned_abs b.top)
scaled_plus a b d k l e f =
    let s = sum_over a b d k l e f in
    (s.by, s.over, omega (arith, s.size, abs_plus (a.top *ℤ pos k) (b.top *ℤ pos l), abs_times a.top k, abs_times b.top l))

pub product_is_over : (a b : Ratio) (d e k l : ℕ) → d ≡ k * suc a.under → e ≡ l * suc b.under → IsOver (times a b) ((a.top *ℤ pos k) *ℤ (b.top *ℤ pos l)) (d * e)
product_is_over a b d e k l f g =
    let z : ℤ = (a.top *ℤ pos k) *ℤ (b.top *ℤ pos l) in
    over_of_value (times a b) z (d * e)
    (IsSameValue-trans (fraction (times a b)) (product_of (fraction a) (fraction b)) (record { numerator = z; denominator = d * e }) (product_positive a.under b.under) (times-value a b) (product_over a.top b.top (suc a.under) (suc b.under) k l d e f g))

pub scaled_times : (a b : Ratio) (d e k l : ℕ) → d ≡ k * suc a.under → e ≡ l * suc b.under → (m : ℕ) × (d * e ≡ m * suc (times a b).under) × (m * unsigned_abs (times a b).top ≡ (k * unsigned_abs a.top) * (l * unsigned_abs b.top))
scaled_times a b d e k l f g =
    let s = product_is_over a b d e k l f g in
    (s.by, s.over, s.size ∙ unsigned_abs-mul (a.top *ℤ pos k) (b.top *ℤ pos l) ∙ ap₂ (λ x y. x * y) (abs_times a.top k) (abs_times b.top l))
