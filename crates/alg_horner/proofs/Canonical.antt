-- Two forms of one map are one form.
use Rattle.std.proofs.Common.{◌≡◌, ℕ, suc, zero, true, false, cond, ◌+◌, ◌-◌, ◌<◌, ◌≤◌, List, [], ◌∷◌, ◌++◌, take, drop, replicate, refl, sym, ap, ap₂, ◌∙◌, arith, ⊎_elim, le-leb, add-suc, zero-add}
use Rattle.std.specs.Prelude.{◌==◌, nat_le}
use Rattle.std.proofs.lemmas.Bool.{cases_lt}
use Rattle.alg_sums.specs.Coefficients.{Coefficients}
use Rattle.alg_horner.specs.Form.{Form, constant, skip, sum, is_one, coefficient, IsSameMap, IsSum, IsMultiple, IsForm}
use Rattle.alg_sums.proofs.RingLaws.{nil_plus}

module _ {C : Type 0} (r : Coefficients C) where
  -- ---- the coefficient r at some monomials
  zeros_one : (k : ℕ) (m : List ℕ) → is_one (take k (replicate k 0 ++ m)) ≡ true
  zeros_one zero m = refl
  zeros_one (suc k) m = zeros_one k m

  zeros_drop : (k : ℕ) (m : List ℕ) → drop k (replicate k 0 ++ m) ≡ m
  zeros_drop zero m = refl
  zeros_drop (suc k) m = zeros_drop k m

  pub at_skip : (k : ℕ) (h : Form C) (m : List ℕ) → coefficient r (skip k h) (replicate k 0 ++ m) ≡ coefficient r h m
  at_skip k h m = rw (zeros_one k m, zeros_drop k m) refl

  le_true : (i n : ℕ) → i ≤ n → nat_le i n ≡ true
  le_true i n h = le-leb i n h

  le_false : (i n : ℕ) → n < i → nat_le i n ≡ false
  le_false i n h = grind arith

  -- below the power only the rest counts
  pub at_rest : (p : Form C) (i : ℕ) (q : Form C) (m : List ℕ) → 0 < i → coefficient r (sum p i q) (0 ∷ m) ≡ coefficient r q m
  at_rest p i q m h = ap (λ b. r.plus (cond b (coefficient r p ((0 - i) ∷ m)) r.nil) (coefficient r q m)) (le_false i 0 h) ∙ nil_plus r (coefficient r q m)

  is_zero_not : (e i : ℕ) → 0 < i → (e + i == 0) ≡ false
  is_zero_not e i h = grind arith

  -- from the power on only the inner part counts
  pub at_inner : (p : Form C) (i : ℕ) (q : Form C) (e : ℕ) (m : List ℕ) → 0 < i → coefficient r (sum p i q) ((e + i) ∷ m) ≡ coefficient r p (e ∷ m)
  at_inner p i q e m h =
      let d : e + i - i ≡ e = omega arith in
      ap₂ (λ b n. r.plus (cond b (coefficient r p (n ∷ m)) r.nil) (cond (e + i == 0) (coefficient r q m) r.nil)) (le_true i (e + i) (omega arith)) d ∙ ap (λ b. r.plus (coefficient r p (e ∷ m)) (cond b (coefficient r q m) r.nil)) (is_zero_not e i h) ∙ r.plus_nil (coefficient r p (e ∷ m))

  not_zero_is : (e : ℕ) → 0 < e → (e == 0) ≡ false
  not_zero_is e h = grind arith

  -- between, neither
  pub at_between : (p : Form C) (i : ℕ) (q : Form C) (e : ℕ) (m : List ℕ) → 0 < e → e < i → coefficient r (sum p i q) (e ∷ m) ≡ r.nil
  at_between p i q e m h k = ap₂ (λ b c. r.plus (cond b (coefficient r p ((e - i) ∷ m)) r.nil) (cond c (coefficient r q m) r.nil)) (le_false i e k) (not_zero_is e h) ∙ r.plus_nil r.nil

  take_none : (k : ℕ) → take {A = ℕ} k [] ≡ []
  take_none zero = refl
  take_none (suc k) = refl

  drop_none : (k : ℕ) → drop {A = ℕ} k [] ≡ []
  drop_none zero = refl
  drop_none (suc k) = refl

  skip_zero : (k : ℕ) (h : Form C) → coefficient r h [] ≡ coefficient r h (0 ∷ []) → coefficient r (skip k h) [] ≡ coefficient r (skip k h) (0 ∷ [])
  skip_zero zero h e = e
  skip_zero (suc k) h e = rw (take_none k, drop_none k) refl

  -- a missing exponent is 0
  pub missing : (h : Form C) → coefficient r h [] ≡ coefficient r h (0 ∷ [])
  missing (constant c) = refl
  missing (skip k h) = skip_zero k h (missing h)
  missing (sum p i q) = refl

  -- the coefficients are all 0
  abbrev pub IsZeroMap : Form C → Type 0
  IsZeroMap h = (m : List ℕ) → coefficient r h m ≡ r.nil

  pub inner_zero : (p : Form C) → ((e : ℕ) (m : List ℕ) → coefficient r p (e ∷ m) ≡ r.nil) → IsZeroMap p
  inner_zero p h [] = missing p ∙ h 0 []
  inner_zero p h (e ∷ m) = h e m

  skip_no : (h : Form C) → IsSum h → h ≡ constant r.nil → ⊥
  skip_no (constant c) s e = s
  skip_no (skip k h) s e = s
  skip_no (sum p i q) s e = cc

  -- only the constant 0 has no coefficient
  pub zero_form : (h : Form C) → IsForm r h → IsZeroMap h → h ≡ constant r.nil
  zero_form (constant c) f z = ap constant (z [])
  zero_form (skip k h) f z = absurd (skip_no h f.1 (zero_form h f.2 (λ m. sym (at_skip k h m) ∙ z (replicate k 0 ++ m))))
  zero_form (sum p i q) f z = absurd (f.1 (zero_form p f.3 (inner_zero p (λ e m. sym (at_inner p i q e m f.0) ∙ z ((e + i) ∷ m)))))

  -- a form that is not 0 and that x does not divide has a coefficient r where x does not occur
  pub without_first : (p : Form C) → IsForm r p → (p ≡ constant r.nil → ⊥) → (IsMultiple r p → ⊥) → ((m : List ℕ) → coefficient r p (0 ∷ m) ≡ r.nil) → ⊥
  without_first (constant c) f n d z = n (ap constant (z []))
  without_first (skip zero h) f n d z = absurd (omega (arith, f.0))
  without_first (skip (suc k) h) f n d z = skip_no h f.1 (zero_form h f.2 (λ m. sym (at_skip (suc k) h m) ∙ z (replicate k 0 ++ m)))
  without_first (sum p' j q) f n d z = d (zero_form q f.4 (λ m. sym (at_rest p' j q m f.0) ∙ z m))

  -- a sum has a coefficient r where x occurs
  pub with_first : (h : Form C) → IsForm r h → IsSum h → ((e : ℕ) (m : List ℕ) → coefficient r h (suc e ∷ m) ≡ r.nil) → ⊥
  with_first (constant c) f s z = s
  with_first (skip k h) f s z = s
  with_first (sum p zero q) f s z = absurd (omega (arith, f.0))
  with_first (sum p (suc i) q) f s z =
      f.1 (zero_form p f.3 (inner_zero p (λ e m. sym (at_inner p (suc i) q e m f.0) ∙ ap (λ n. coefficient r (sum p (suc i) q) (n ∷ m)) (add-suc e i) ∙ z (e + i) m)))

  suc_not : (e : ℕ) → (suc e == 0) ≡ false
  suc_not e = not_zero_is (suc e) (omega arith)

  -- an atom among the skipped ones has no coefficient
  occurs_one : (j : ℕ) (e : ℕ) (m : List ℕ) → is_one (replicate j 0 ++ (suc e ∷ m)) ≡ false
  occurs_one zero e m = rw (suc_not e) refl
  occurs_one (suc j) e m = occurs_one j e m

  occurs_take : (j k : ℕ) (e : ℕ) (m : List ℕ) → j < k → is_one (take k (replicate j 0 ++ (suc e ∷ m))) ≡ false
  occurs_take j zero e m h = absurd (omega arith)
  occurs_take zero (suc k) e m h = rw (suc_not e) refl
  occurs_take (suc j) (suc k) e m h = occurs_take j k e m (omega arith)

  in_constant : (c : C) (j e : ℕ) (m : List ℕ) → coefficient r (constant c) (replicate j 0 ++ (suc e ∷ m)) ≡ r.nil
  in_constant c j e m = rw (occurs_one j e m) refl

  in_skip : (k : ℕ) (h : Form C) (j e : ℕ) (m : List ℕ) → j < k → coefficient r (skip k h) (replicate j 0 ++ (suc e ∷ m)) ≡ r.nil
  in_skip k h j e m l = rw (occurs_take j k e m l) refl

  back : (f g : Form C) → IsSameMap r f g → IsSameMap r g f
  back f g s m = sym (s m)

  inner_same : (p p' : Form C) → ((e : ℕ) (m : List ℕ) → coefficient r p (e ∷ m) ≡ coefficient r p' (e ∷ m)) → IsSameMap r p p'
  inner_same p p' h [] = missing p ∙ h 0 [] ∙ sym (missing p')
  inner_same p p' h (e ∷ m) = h e m

  -- a skip and a form in which the atom after j does not occur
  skip_other : (k : ℕ) (h g : Form C) → IsForm r (skip k h) → IsSameMap r (skip k h) g → ((e : ℕ) (m : List ℕ) → coefficient r g (replicate k 0 ++ (suc e ∷ m)) ≡ r.nil) → ⊥
  skip_other k h g f s z = with_first h f.2 f.1 (λ e m. sym (at_skip k h (suc e ∷ m)) ∙ s (replicate k 0 ++ (suc e ∷ m)) ∙ z e m)

  sum_other : (p : Form C) (i : ℕ) (q g : Form C) → IsForm r (sum p i q) → IsSameMap r (sum p i q) g → ((e : ℕ) (m : List ℕ) → coefficient r g (suc e ∷ m) ≡ r.nil) → ⊥
  sum_other p i q g f s z = with_first (sum p i q) f tt (λ e m. s (suc e ∷ m) ∙ z e m)

  power_less : (p : Form C) (i : ℕ) (q p' : Form C) (i' : ℕ) (q' : Form C) → IsForm r (sum p i q) → IsSameMap r (sum p i q) (sum p' i' q') → i < i' → ⊥
  power_less p i q p' i' q' f s l = without_first p f.3 f.1 f.2 (λ m. sym (at_inner p i q 0 m f.0) ∙ s ((0 + i) ∷ m) ∙ ap (λ n. coefficient r (sum p' i' q') (n ∷ m)) (zero-add i) ∙ at_between p' i' q' i m f.0 l)

  equal_by : (a b : ℕ) → (a < b → ⊥) → (b < a → ⊥) → a ≡ b
  equal_by a b h k = ⊎_elim (λ l. absurd (h l)) (λ l. ⊎_elim (λ o. absurd (k o)) (λ r. omega arith) (cases_lt b a)) (cases_lt a b)

  same_parts : (p p' : Form C) (i i' : ℕ) (q q' : Form C) → p ≡ p' → i ≡ i' → q ≡ q' → sum p i q ≡ sum p' i' q'
  same_parts p p' i i' q q' t e u = cc

  -- two forms of one map are one form
  pub canonical : (f g : Form C) → IsForm r f → IsForm r g → IsSameMap r f g → f ≡ g
  canonical (constant c) (constant d) a b s = ap constant (s [])
  canonical (constant c) (skip k h) a b s = absurd (skip_other k h (constant c) b (back (constant c) (skip k h) s) (λ e m. in_constant c k e m))
  canonical (constant c) (sum p i q) a b s = absurd (sum_other p i q (constant c) b (back (constant c) (sum p i q) s) (λ e m. in_constant c 0 e m))
  canonical (skip k h) (constant c) a b s = absurd (skip_other k h (constant c) a s (λ e m. in_constant c k e m))
  canonical (skip k h) (skip k' h') a b s =
      let e : k ≡ k' = equal_by k k' (λ l. skip_other k h (skip k' h') a s (λ e m. in_skip k' h' k e m l)) (λ l. skip_other k' h' (skip k h) b (back (skip k h) (skip k' h') s) (λ e m. in_skip k h k' e m l)) in
      ap₂ skip e (canonical h h' a.2 b.2 (λ m. sym (at_skip k h m) ∙ s (replicate k 0 ++ m) ∙ ap (λ n. coefficient r (skip k' h') (replicate n 0 ++ m)) e ∙ at_skip k' h' m))
  canonical (skip k h) (sum p i q) a b s = absurd (sum_other p i q (skip k h) b (back (skip k h) (sum p i q) s) (λ e m. in_skip k h 0 e m a.0))
  canonical (sum p i q) (constant c) a b s = absurd (sum_other p i q (constant c) a s (λ e m. in_constant c 0 e m))
  canonical (sum p i q) (skip k h) a b s = absurd (sum_other p i q (skip k h) a s (λ e m. in_skip k h 0 e m b.0))
  canonical (sum p i q) (sum p' i' q') a b s =
      let e : i ≡ i' = equal_by i i' (power_less p i q p' i' q' a s) (power_less p' i' q' p i q b (back (sum p i q) (sum p' i' q') s)) in
      let u : q ≡ q' = canonical q q' a.4 b.4 (λ m. sym (at_rest p i q m a.0) ∙ s (0 ∷ m) ∙ at_rest p' i' q' m b.0) in
      let t : p ≡ p' = canonical p p' a.3 b.3 (inner_same p p' (λ n m. sym (at_inner p i q n m a.0) ∙ s ((n + i) ∷ m) ∙ ap (λ k. coefficient r (sum p' i' q') ((n + k) ∷ m)) e ∙ at_inner p' i' q' n m b.0)) in
      same_parts p p' i i' q q' t e u
