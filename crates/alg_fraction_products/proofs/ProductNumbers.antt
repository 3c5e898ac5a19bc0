-- The numbers of a product whose common factors are taken out crosswise.
use Rattle.std.proofs.Common.{◌≡◌, ℕ, zero, suc, ◌*◌, ◌/◌, ◌<◌, arith, refl, sym, ◌∙◌, ap₂, subst}
use Rattle.std.specs.Int.{IsGcd}
use Rattle.std.proofs.Math.Nat.{div-mul_cancel}
use Rattle.alg_num.proofs.CoprimeLaws.{gcd_positive}
use Rattle.alg_num.proofs.IntegerLaws.{positive_factor, positive_product}
use Rattle.alg_fraction_numbers.specs.Products.{SizesMultiply}
use Rattle.alg_fraction_numbers.proofs.ResultLemmas.{crossed-top, crossed-bottom}

-- without the factor g of n and e, and the factor k of m and d, n / d times m / e is p / q
pub record IsCrossed (n d m e p q g k : ℕ) : Type 0 where
  pub left_above : 0 < g
  pub right_above : 0 < k
  pub first : n / g * g ≡ n
  pub first_over : d / k * k ≡ d
  pub second : m / k * k ≡ m
  pub second_over : e / g * g ≡ e
  pub first_above : 0 < d / k
  pub second_above : 0 < e / g
  pub top : n / g * (m / k) ≡ p
  pub bottom : e / g * (d / k) ≡ q

by_one : (n g : ℕ) → g ≡ 1 → n / g * g ≡ n → n / g ≡ n
by_one n g e h =
    let k : n / g * 1 ≡ n = subst (λ (x : ℕ). n / g * x ≡ n) e h in
    omega (arith, k)

module _ (n d m e p q : ℕ) (h : SizesMultiply n d m e p q) where
  pub is-crossed : (g k : ℕ) → IsGcd n e g → IsGcd m d k → IsCrossed n d m e p q g k
  is-crossed g k i j =
      let s : e / g * g ≡ e = div-mul_cancel g i.1 in
      let t : d / k * k ≡ d = div-mul_cancel k j.1 in
      record {
        left_above = gcd_positive n e g h.second.positive i;
        right_above = gcd_positive m d k h.first.positive j;
        first = div-mul_cancel g i.0;
        first_over = t;
        second = div-mul_cancel k j.0;
        second_over = s;
        first_above = positive_factor (d / k) k d h.first.positive t;
        second_above = positive_factor (e / g) g e h.second.positive s;
        top = sym (crossed-top n d m e p q g k h i j);
        bottom = sym (crossed-bottom n d m e p q g k h i j);
      }

  module _ (g k : ℕ) (i : IsGcd n e g) (j : IsGcd m d k) (a : g ≡ 1) (b : k ≡ 1) where
    pub top-joined : n * m ≡ p
    top-joined =
        let w = is-crossed g k i j in
        let x : n / g ≡ n = by_one n g a w.first in
        let y : m / k ≡ m = by_one m k b w.second in
        ap₂ (λ u v. u * v) (sym x) (sym y) ∙ w.top

    pub bottom-joined : d * e ≡ q
    bottom-joined =
        let w = is-crossed g k i j in
        let x : d / k ≡ d = by_one d k b w.first_over in
        let y : e / g ≡ e = by_one e g a w.second_over in
        let r : e * d ≡ q = ap₂ (λ u v. u * v) (sym y) (sym x) ∙ w.bottom in
        omega (arith, r)

-- two numbers above 0 whose product is 1
pub left-one : (a b : ℕ) → 0 < a → 0 < b → a * b ≡ 1 → a ≡ 1
left-one zero b h i e = absurd (omega (arith, h))
left-one (suc zero) b h i e = refl
left-one (suc (suc a)) b h i e = absurd (omega (arith, e, i, positive_product (suc a) b (omega arith) i))

pub right-one : (a b : ℕ) → 0 < a → 0 < b → a * b ≡ 1 → b ≡ 1
right-one a b h i e = left-one b a i h (omega (arith, e))
