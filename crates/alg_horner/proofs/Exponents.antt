-- That no exponent passes the range.
use Rattle.std.proofs.Common.{◌≡◌, ℕ, suc, zero, ◌+◌, ◌-◌, ◌*◌, ◌<◌, ◌≤◌, ◌^◌, ◌⊎◌, inl, inr, false, cond, refl, ap, ◌∙◌, arith}
use Rattle.std.specs.Prelude.{◌==◌}
use Rattle.std.specs.Cmp.{both_ways}
use Rattle.std.proofs.lemmas.Bool.{cases_lt}
use Rattle.std.proofs.lemmas.Bool.Decides.{nat_tests}
use Rattle.alg_sums.specs.Coefficients.{Coefficients}
use Rattle.alg_horner.specs.Form.{Form, constant, skip, sum, degree, shifted, only, exponent, atoms, IsSum, IsMultiple, IsSound}
use Rattle.alg_horner.specs.Facts.{IsNormalOf, IsSumOf}
use Rattle.alg_horner.specs.Adding.{IsBeside, IsNodes}
use Rattle.alg_horner.specs.Negating.{IsNegativeOf}
use Rattle.alg_horner.specs.Multiplying.{IsProductOf, IsMultipleOf, HasSmallProduct}
use Rattle.alg_horner.proofs.Degrees.{degree-same, degree-none, degree-nothing}

test : (k a b m n : ℕ) → a ≡ k + b → (a + m == k + n) ≡ (b + m == n)
test k a b m n e = both_ways (a + m == k + n) (b + m == n) (λ h. grind (arith, nat_tests, h, e)) (λ h. grind (arith, nat_tests, h, e))

-- the atom after k more
pub degree-shift : {C : Type 0} (k a b n : ℕ) (f : Form C) → a ≡ k + b → degree (shifted a (only (k + n))) f ≡ degree (shifted b (only n)) f
degree-shift k a b n f e = degree-same (shifted a (only (k + n))) (shifted b (only n)) f (λ m. ap (λ t. cond {A = ℕ} t 1 0) (test k a b m n e))

pub exponent_after : {C : Type 0} (k n : ℕ) (f : Form C) → degree (shifted k (only (k + n))) f ≡ exponent n f
exponent_after k n f = degree-shift k k 0 n f (omega arith) ∙ degree-none (only n) f

zero_not : (n : ℕ) → (0 == suc n) ≡ false
zero_not n = grind arith

not_there : (k m n : ℕ) → n < k → (k + m == n) ≡ false
not_there k m n l = grind (arith, l)

pub exponent_before : {C : Type 0} (k n : ℕ) (f : Form C) → n < k → degree (shifted k (only n)) f ≡ 0
exponent_before k n f l = degree-nothing (shifted k (only n)) f (λ m. ap (λ t. cond {A = ℕ} t 1 0) (not_there k m n l))

smaller : (a b w : ℕ) → a ≤ b → a * w ≤ b * w
smaller a b zero h = omega arith
smaller a b (suc w) h = omega (arith, h, smaller a b w h)

module _ {C : Type 0} (r : Coefficients C) where
  skipped_by : (k n : ℕ) (f : Form C) → ((m : ℕ) → exponent m f < 2 ^ 32) → (n < k) ⊎ (k ≤ n) → degree (shifted k (only n)) f < 2 ^ 32
  skipped_by k n f h (inl l) = omega (arith, exponent_before k n f l)
  skipped_by k n f h (inr l) =
      let e : n ≡ k + (n - k) = omega (arith, l) in
      let x = ap (λ m. degree (shifted k (only m)) f) e in
      omega (arith, x, exponent_after k (n - k) f, h (n - k))

  -- the exponents of a form over later atoms
  pub skipped : (k n : ℕ) (f : Form C) → ((m : ℕ) → exponent m f < 2 ^ 32) → degree (shifted k (only n)) f < 2 ^ 32
  skipped k n f h = skipped_by k n f h (cases_lt n k)

  first_or_later : (n : ℕ) (p : Form C) (i : ℕ) → exponent 0 p + i < 2 ^ 32 → ((m : ℕ) → exponent m p < 2 ^ 32) → degree (only n) p + i * only n 0 < 2 ^ 32
  first_or_later zero p i l h = omega (arith, l)
  first_or_later (suc n) p i l h = let z : only (suc n) 0 ≡ 0 = ap (λ t. cond {A = ℕ} t 1 0) (zero_not n) in let e : i * only (suc n) 0 ≡ 0 = ap (λ x. i * x) z ∙ (let w : i * 0 ≡ 0 = omega arith in w) in omega (arith, e, h (suc n))

  pub sum_exponents : (p : Form C) (i : ℕ) (q : Form C) → exponent 0 p + i < 2 ^ 32 → ((m : ℕ) → exponent m p < 2 ^ 32) → ((m : ℕ) → exponent m q < 2 ^ 32) → (n : ℕ) → exponent n (sum p i q) < 2 ^ 32
  sum_exponents p i q l h k n = omega (arith, first_or_later n p i l h, skipped 1 n q k)

  pub sound_sum : (p : Form C) (i : ℕ) (q : Form C) → 0 < i → (p ≡ constant r.nil → ⊥) → (IsMultiple r p → ⊥) → IsSound r p → IsSound r q → exponent 0 p + i < 2 ^ 32 → atoms q + 1 ≤ 2 ^ 32 → IsSound r (sum p i q)
  sound_sum p i q o n m h k l a = record {
    form = (o, n, m, h.form, k.form);
    atoms = omega (arith, h.atoms, a);
    exponents = sum_exponents p i q l h.exponents k.exponents;
  }

  -- a smaller power of the same inner part
  pub sound_less : (p : Form C) (i j : ℕ) (q z : Form C) → z ≡ constant r.nil → j < i → IsSound r (sum p i q) → IsSound r (sum p (i - j) z)
  sound_less p i j q z e l s = rw e (record {
    form = (omega (arith, l), s.form.1, s.form.2, s.form.3, tt);
    atoms = omega (arith, s.atoms);
    exponents = λ n.
        let h = s.exponents n in
        let x : (i - j) * only n 0 ≤ i * only n 0 = smaller (i - j) i (only n 0) (omega (arith, l)) in
        omega (arith, h, x);
  })

  -- the parts of a product
  pub small_inner : (f p : Form C) (j : ℕ) (q : Form C) → HasSmallProduct f (sum p j q) → HasSmallProduct f p
  small_inner f p j q s = record { exponents = λ n. omega (arith, s.exponents n) }

  pub small_rest : (f p : Form C) (j : ℕ) (q : Form C) → HasSmallProduct f (sum p j q) → HasSmallProduct f (skip 1 q)
  small_rest f p j q s = record { exponents = λ n. omega (arith, s.exponents n) }

  pub small_first : (p : Form C) (i : ℕ) (q g : Form C) → HasSmallProduct (sum p i q) g → HasSmallProduct p g
  small_first p i q g s = record { exponents = λ n. omega (arith, s.exponents n) }

  pub small_comm : (f g : Form C) → HasSmallProduct f g → HasSmallProduct g f
  small_comm f g s = record { exponents = λ n. omega (arith, s.exponents n) }

  pub small_constant : (c : C) (k : ℕ) (g : Form C) → HasSmallProduct (constant c) (skip k g) → HasSmallProduct (constant c) g
  small_constant c k g s = record { exponents = λ n. omega (arith, s.exponents (k + n), exponent_after k n g) }

  pub small_skips : (k j : ℕ) (f g t : Form C) → k ≤ j → IsNormalOf r (skip (j - k) g) t → HasSmallProduct (skip k f) (skip j g) → HasSmallProduct f t
  small_skips k j f g t l m s = record {
    exponents = λ n.
        let h = s.exponents (k + n) in
        let a = exponent_after k n f in
        let b = degree-shift k j (j - k) n g (let e : j ≡ k + (j - k) = omega (arith, l) in e) in
        let c = m.degree (only n) in
        omega (arith, h, a, b, c);
  }

  pub small_later : (p : Form C) (i : ℕ) (q : Form C) (k : ℕ) (g t : Form C) → 0 < k → IsNormalOf r (skip (k - 1) g) t → HasSmallProduct (sum p i q) (skip k g) → HasSmallProduct q t
  small_later p i q k g t l m s = record {
    exponents = λ n.
        let h = s.exponents (1 + n) in
        let a = exponent_after 1 n q in
        let b = degree-shift 1 k (k - 1) n g (let e : k ≡ 1 + (k - 1) = omega (arith, l) in e) in
        let c = m.degree (only n) in
        omega (arith, h, a, b, c);
  }

  -- what is joined to a power of the first atom
  pub join_product : (f p : Form C) (j : ℕ) (q u : Form C) → IsProductOf r f p u → HasSmallProduct f (sum p j q) → exponent 0 u + j < 2 ^ 32
  join_product f p j q u a s = omega (arith, a.degree (only 0), s.exponents 0)

  pub join_later : (p : Form C) (i : ℕ) (q g u : Form C) → IsProductOf r p g u → HasSmallProduct (sum p i q) g → exponent 0 u + i < 2 ^ 32
  join_later p i q g u a s = omega (arith, a.degree (only 0), s.exponents 0)

  pub join_negative : (p : Form C) (i : ℕ) (q u : Form C) → IsNegativeOf r p u → IsSound r (sum p i q) → exponent 0 u + i < 2 ^ 32
  join_negative p i q u a s = omega (arith, a.degree (only 0), s.exponents 0)

  pub join_multiple : (p : Form C) (i : ℕ) (q : Form C) (c : C) (u : Form C) → IsMultipleOf r p c u → IsSound r (sum p i q) → exponent 0 u + i < 2 ^ 32
  join_multiple p i q c u a s = omega (arith, a.degree (only 0), s.exponents 0)

  pub join_beside : (f g p : Form C) (i : ℕ) (q t : Form C) → IsBeside r f g p i q t → IsSound r f → IsSound r g → exponent 0 p + i < 2 ^ 32
  join_beside f g p i q t b s u = omega (arith, b.degree (only 0), s.exponents 0, u.exponents 0)

  pub join_nodes : (f g p s : Form C) (i : ℕ) (q t u : Form C) → IsNodes r f g p s i q t → IsSumOf r p s u → IsSound r f → IsSound r g → exponent 0 u + i < 2 ^ 32
  join_nodes f g p s i q t u n a x y = omega (arith, n.degree (only 0), a.degree (only 0), x.exponents 0, y.exponents 0)

  -- the inner part of a multiple with a greater power
  pub sound_more : (p : Form C) (j i : ℕ) (z q f : Form C) → f ≡ sum p j z → IsSound r f → IsSound r q → exponent 0 f + i < 2 ^ 32 → atoms q + 1 ≤ 2 ^ 32 → IsSound r (sum p (j + i) q)
  sound_more p j i z q f e h k l a =
      let s = rw e at h in
      let x = rw e at l in
      record {
        form = (omega (arith, s.form.0), s.form.1, s.form.2, s.form.3, k.form);
        atoms = omega (arith, s.atoms, a);
        exponents = sum_exponents p (j + i) q (omega (arith, x)) (λ n. omega (arith, s.exponents n)) k.exponents;
      }

  pub sound_skip : (k : ℕ) (f : Form C) → 0 < k → IsSum f → IsSound r f → k + atoms f ≤ 2 ^ 32 → IsSound r (skip k f)
  sound_skip k f o s h a = record { form = (o, s, h.form); atoms = a; exponents = λ n. skipped k n f h.exponents }

  pub sound_constant : (c : C) → IsSound r (constant c)
  sound_constant c = record { form = tt; atoms = omega arith; exponents = λ n. omega arith }

  twice_exponents : (k j : ℕ) (h : Form C) → ((m : ℕ) → exponent m (skip j h) < 2 ^ 32) → (n : ℕ) → (n < k) ⊎ (k ≤ n) → degree (shifted (k + j) (only n)) h < 2 ^ 32
  twice_exponents k j h u n (inl l) = omega (arith, exponent_before (k + j) n h (omega (arith, l)))
  twice_exponents k j h u n (inr l) =
      let x = degree-shift k (k + j) j (n - k) h refl in
      let y = ap (λ m. degree (shifted (k + j) (only m)) h) (let z : n ≡ k + (n - k) = omega (arith, l) in z) in
      omega (arith, u (n - k), x, y)

  -- two skips in one
  pub sound_twice : (k j : ℕ) (h f : Form C) → f ≡ skip j h → IsSound r f → k + atoms f ≤ 2 ^ 32 → IsSound r (skip (k + j) h)
  sound_twice k j h f e s a =
      let t = rw e at s in
      let b = rw e at a in
      record {
        form = (omega (arith, t.form.0), t.form.1, t.form.2);
        atoms = omega (arith, b);
        exponents = λ n. twice_exponents k j h t.exponents n (cases_lt n k);
      }
