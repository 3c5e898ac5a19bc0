-- Weights of coefficients.
use Rattle.std.proofs.Common.{◌≡◌, ℕ, ◌+◌, ◌≤◌, Bool, true, false, cond, refl, ap, ◌∙◌, arith}
use Rattle.alg_sums.specs.Coefficients.{Coefficients}
use Rattle.alg_sums.specs.Size.{size_of}
use Rattle.alg_sums.proofs.Sizes.{size_nil, size_plus}
use Rattle.alg_sums.proofs.RingLaws.{nil_plus}
use Rattle.alg_horner.specs.Form.{IsSubadditive}

module _ {C : Type 0} (r : Coefficients C) where
  pub sizes_add : (d : ℕ) → IsSubadditive r (size_of r d)
  sizes_add d = record { nil = size_nil r d; plus = size_plus r d }

  nil_counts : cond {A = ℕ} (r.is_nil r.nil) 0 1 ≡ 0
  nil_counts = ap (λ b. cond {A = ℕ} b 0 1) r.is_nil-nil

  at_most_one : (b : Bool) → cond {A = ℕ} b 0 1 ≤ 1
  at_most_one true = omega arith
  at_most_one false = omega arith

  count_plus : (a b : C) (s t : Bool) → r.is_nil a ≡ s → r.is_nil b ≡ t → cond {A = ℕ} (r.is_nil (r.plus a b)) 0 1 ≤ cond {A = ℕ} s 0 1 + cond {A = ℕ} t 0 1
  count_plus a b true true e f =
      let z : r.plus a b ≡ r.nil = ap (λ x. r.plus x b) (r.nil_is a e) ∙ nil_plus r b ∙ r.nil_is b f in
      let k : cond {A = ℕ} (r.is_nil (r.plus a b)) 0 1 ≡ 0 = ap (λ x. cond {A = ℕ} (r.is_nil x) 0 1) z ∙ nil_counts in
      omega (arith, k)
  count_plus a b true false e f = omega (arith, at_most_one (r.is_nil (r.plus a b)))
  count_plus a b false t e f = omega (arith, at_most_one (r.is_nil (r.plus a b)))

  -- how many coefficients are not nil
  pub terms_add : IsSubadditive r (λ c. cond {A = ℕ} (r.is_nil c) 0 1)
  terms_add = record { nil = nil_counts; plus = λ a b l. count_plus a b (r.is_nil a) (r.is_nil b) refl refl }
