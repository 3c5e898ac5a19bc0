-- How the negations of the parts give the negation.
use Rattle.std.proofs.Common.{◌≡◌, ℕ, Bool, true, false, cond, ◌-◌, ◌≤◌, ◌^◌, ◌∷◌, take, drop, refl, sym, ap, ap₂, ◌∙◌, arith}
use Rattle.std.specs.Prelude.{◌==◌, nat_le}
use Rattle.alg_sums.specs.Coefficients.{Coefficients}
use Rattle.alg_sums.specs.Size.{size_of}
use Rattle.alg_sums.proofs.RingLaws.{minus_plus, minus_nil}
use Rattle.alg_horner.specs.Form.{Form, constant, skip, sum, first, others, is_one, coefficient, shifted}
use Rattle.alg_horner.specs.Facts.{IsNormalOf, CanNegate}
use Rattle.alg_horner.specs.Negating.{CanNegateAll, IsNegativeOf}

module _ {C : Type 0} (r : Coefficients C) where
  cond_minus : (b : Bool) (x : C) → cond b (r.minus x) r.nil ≡ r.minus (cond b x r.nil)
  cond_minus true x = refl
  cond_minus false x = minus_nil r

  pub negative_constant : (c : C) → IsNegativeOf r (constant c) (constant (r.minus c))
  negative_constant c = record { map = λ m. cond_minus (is_one m) c; atoms = omega arith; degree = λ v. omega arith; weight = λ w z o. omega (arith, o c) }

  pub negative_skip : (k : ℕ) (f u h : Form C) → IsNegativeOf r f u → IsNormalOf r (skip k u) h → IsNegativeOf r (skip k f) h
  negative_skip k f u h s n = record {
    map = λ m. n.map m ∙ ap (λ x. cond (is_one (take k m)) x r.nil) (s.map (drop k m)) ∙ cond_minus (is_one (take k m)) (coefficient r f (drop k m));
    atoms = omega (arith, n.atoms, s.atoms);
    degree = λ v. omega (arith, n.degree v, s.degree (shifted k v));
    weight = λ w z o. omega (arith, n.weight w z, s.weight w z o);
  }

  pub negative_sum : (p : Form C) (i : ℕ) (q u v h : Form C) → IsNegativeOf r p u → IsNegativeOf r q v → IsNormalOf r (sum u i v) h → IsNegativeOf r (sum p i q) h
  negative_sum p i q u v h s t n = record {
    map = λ m.
        n.map m
        ∙ ap₂ (λ x y. r.plus (cond (nat_le i (first m)) x r.nil) (cond (first m == 0) y r.nil)) (s.map ((first m - i) ∷ others m)) (t.map (others m))
        ∙ ap₂ r.plus (cond_minus (nat_le i (first m)) (coefficient r p ((first m - i) ∷ others m))) (cond_minus (first m == 0) (coefficient r q (others m)))
        ∙ minus_plus r _ _;
    atoms = omega (arith, n.atoms, s.atoms, t.atoms);
    degree = λ vs. omega (arith, n.degree vs, s.degree vs, t.degree (shifted 1 vs));
    weight = λ w z o. omega (arith, n.weight w z, s.weight w z o, t.weight w z o);
  }

  small_by : (x : ℕ) → ◌≡◌ {A = ℕ} (cond (nat_le x (2 ^ 126)) 0 1) 0 → x ≤ 2 ^ 126
  small_by x e = grind (arith, e)

  pub can_negate : (c : C) → CanNegateAll r (constant c) → CanNegate r c
  can_negate c s = record { denominator = s.denominator; positive = s.positive; bounded = s.bounded; small = small_by (size_of r s.denominator c) s.small }

  pub terms_nil : (a : C) → a ≡ r.nil → ◌≡◌ {A = ℕ} 0 (cond (r.is_nil a) 0 1)
  terms_nil a e = ap (λ b. cond {A = ℕ} b 0 1) (sym (ap (λ x. r.is_nil x) e ∙ r.is_nil-nil))

  one_by : (b : Bool) → (b ≡ true → ⊥) → ◌≡◌ {A = ℕ} 1 (cond b 0 1)
  one_by true h = absurd (h refl)
  one_by false h = refl

  pub terms_one : (a : C) → (a ≡ r.nil → ⊥) → ◌≡◌ {A = ℕ} 1 (cond (r.is_nil a) 0 1)
  terms_one a h = one_by (r.is_nil a) (λ e. h (r.nil_is a e))
