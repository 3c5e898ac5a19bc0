-- Laws of the product of two maps.
use Rattle.std.proofs.Common.{◌≡◌, ℕ, suc, zero, Bool, true, false, cond, ◌+◌, ◌-◌, ◌<◌, ◌≤◌, List, [], ◌∷◌, refl, sym, ap, ap₂, ◌∙◌, arith, ◌⊎◌, inl, inr}
use Rattle.std.specs.Prelude.{◌&&◌, ◌==◌, nat_le}
use Rattle.std.proofs.lemmas.Bool.{cases_lt}
use Rattle.alg_sums.specs.Coefficients.{Coefficients}
use Rattle.alg_sums.proofs.RingLaws.{nil_plus, plus_swap_middle, times_nil}
use Rattle.alg_horner.specs.Form.{constant, first, others, is_one, coefficient}
use Rattle.alg_horner.specs.Adding.{at_others, at_power}
use Rattle.alg_sums.specs.Exponents.{up_to, convolved}
use Rattle.alg_horner.proofs.Maps.{le_true, le_false}

module _ {C : Type 0} (r : Coefficients C) where
  -- sums
  pub up_to-same : (e : ℕ) (f g : ℕ → C) → ((a : ℕ) → a ≤ e → f a ≡ g a) → up_to r e f ≡ up_to r e g
  up_to-same zero f g h = h 0 (omega arith)
  up_to-same (suc e) f g h = ap₂ r.plus (up_to-same e f g (λ a l. h a (omega (arith, l)))) (h (suc e) (omega arith))

  pub up_to-nil : (e : ℕ) (f : ℕ → C) → ((a : ℕ) → a ≤ e → f a ≡ r.nil) → up_to r e f ≡ r.nil
  up_to-nil zero f h = h 0 (omega arith)
  up_to-nil (suc e) f h = ap₂ r.plus (up_to-nil e f (λ a l. h a (omega (arith, l)))) (h (suc e) (omega arith)) ∙ r.plus_nil r.nil

  pub up_to-plus : (e : ℕ) (f g : ℕ → C) → up_to r e (λ a. r.plus (f a) (g a)) ≡ r.plus (up_to r e f) (up_to r e g)
  up_to-plus zero f g = refl
  up_to-plus (suc e) f g = ap (λ x. r.plus x (r.plus (f (suc e)) (g (suc e)))) (up_to-plus e f g) ∙ plus_swap_middle r _ _ _ _

  -- the first summand apart
  pub up_to-first : (e : ℕ) (f : ℕ → C) → up_to r (suc e) f ≡ r.plus (f 0) (up_to r e (λ a. f (suc a)))
  up_to-first zero f = refl
  up_to-first (suc e) f = ap (λ x. r.plus x (f (suc (suc e)))) (up_to-first e f) ∙ r.plus_assoc _ _ _

  -- from the last to the first
  pub up_to-back : (e : ℕ) (f : ℕ → C) → up_to r e (λ a. f (e - a)) ≡ up_to r e f
  up_to-back zero f = ap f (omega arith)
  up_to-back (suc e) f =
      ap₂ r.plus
      (up_to-same e (λ a. f (suc e - a)) (λ a. f (suc (e - a))) (λ a l. ap f (let q : suc e - a ≡ suc (e - a) = omega (arith, l) in q)) ∙ up_to-back e (λ a. f (suc a)))
      (ap f (let q : suc e - suc e ≡ 0 = omega arith in q))
      ∙ r.plus_comm _ _
      ∙ sym (up_to-first e f)

  -- only the last summand counts
  pub up_to-last : (e : ℕ) (f : ℕ → C) → ((a : ℕ) → a < e → f a ≡ r.nil) → up_to r e f ≡ f e
  up_to-last zero f h = refl
  up_to-last (suc e) f h = ap (λ x. r.plus x (f (suc e))) (up_to-nil e f (λ a l. h a (omega (arith, l)))) ∙ nil_plus r _

  -- only the first ones count
  pub up_to-cut : (n k : ℕ) (f : ℕ → C) → ((a : ℕ) → n < a → a ≤ k + n → f a ≡ r.nil) → up_to r (k + n) f ≡ up_to r n f
  up_to-cut n zero f h = ap (λ e. up_to r e f) (omega arith)
  up_to-cut n (suc k) f h =
      ap (λ e. up_to r e f) (let q : suc k + n ≡ suc (k + n) = omega arith in q)
      ∙ ap₂ r.plus (up_to-cut n k f (λ a l o. h a l (omega (arith, o)))) (h (suc (k + n)) (omega arith) (omega arith))
      ∙ r.plus_nil _

  -- products
  pub convolved-same : (f f' g g' : List ℕ → C) (m : List ℕ) → ((u : List ℕ) → f u ≡ f' u) → ((v : List ℕ) → g v ≡ g' v) → convolved r f g m ≡ convolved r f' g' m
  convolved-same f f' g g' [] h k = ap₂ r.times (h []) (k [])
  convolved-same f f' g g' (e ∷ m) h k = up_to-same e _ _ (λ a l. convolved-same (λ u. f (a ∷ u)) (λ u. f' (a ∷ u)) (λ v. g ((e - a) ∷ v)) (λ v. g' ((e - a) ∷ v)) m (λ u. h (a ∷ u)) (λ v. k ((e - a) ∷ v)))

  pub convolved-comm : (f g : List ℕ → C) (m : List ℕ) → convolved r f g m ≡ convolved r g f m
  convolved-comm f g [] = r.times_comm _ _
  convolved-comm f g (e ∷ m) =
      up_to-same e _ (λ a. convolved r (λ u. g ((e - a) ∷ u)) (λ v. f ((e - (e - a)) ∷ v)) m)
      (λ a l. convolved-comm (λ u. f (a ∷ u)) (λ v. g ((e - a) ∷ v)) m ∙ ap (λ b. convolved r (λ u. g ((e - a) ∷ u)) (λ v. f (b ∷ v)) m) (let q : a ≡ e - (e - a) = omega (arith, l) in q))
      ∙ up_to-back e (λ b. convolved r (λ u. g (b ∷ u)) (λ v. f ((e - b) ∷ v)) m)

  pub convolved-plus : (f g g' : List ℕ → C) (m : List ℕ) → convolved r f (λ v. r.plus (g v) (g' v)) m ≡ r.plus (convolved r f g m) (convolved r f g' m)
  convolved-plus f g g' [] = r.times_plus _ _ _
  convolved-plus f g g' (e ∷ m) =
      up_to-same e _ _ (λ a l. convolved-plus (λ u. f (a ∷ u)) (λ v. g ((e - a) ∷ v)) (λ v. g' ((e - a) ∷ v)) m)
      ∙ up_to-plus e _ _

  pub convolved-nil : (f g : List ℕ → C) (m : List ℕ) → ((v : List ℕ) → g v ≡ r.nil) → convolved r f g m ≡ r.nil
  convolved-nil f g [] h = ap (λ x. r.times (f []) x) (h []) ∙ times_nil r _
  convolved-nil f g (e ∷ m) h = up_to-nil e _ (λ a l. convolved-nil (λ u. f (a ∷ u)) (λ v. g ((e - a) ∷ v)) m (λ v. h ((e - a) ∷ v)))

  pub nil-convolved : (f g : List ℕ → C) (m : List ℕ) → ((u : List ℕ) → f u ≡ r.nil) → convolved r f g m ≡ r.nil
  nil-convolved f g m h = convolved-comm f g m ∙ convolved-nil g f m h

  convolved-cond : (b : Bool) (f g : List ℕ → C) (m : List ℕ) → convolved r f (λ v. cond b (g v) r.nil) m ≡ cond b (convolved r f g m) r.nil
  convolved-cond true f g m = refl
  convolved-cond false f g m = convolved-nil f (λ v. r.nil) m (λ v. refl)

  cut : (f : ℕ → C) (j e : ℕ) → (e < j) ⊎ (j ≤ e) → up_to r e (λ a. cond (nat_le j (e - a)) (f a) r.nil) ≡ cond (nat_le j e) (up_to r (e - j) f) r.nil
  cut f j e (inl h) =
      up_to-nil e _ (λ a l. ap (λ b. cond b (f a) r.nil) (le_false j (e - a) (omega (arith, h))))
      ∙ sym (ap (λ b. cond b (up_to r (e - j) f) r.nil) (le_false j e h))
  cut f j e (inr h) =
      ap (λ n. up_to r n (λ a. cond (nat_le j (e - a)) (f a) r.nil)) (let q : e ≡ j + (e - j) = omega (arith, h) in q)
      ∙ up_to-cut (e - j) j (λ a. cond (nat_le j (e - a)) (f a) r.nil) (λ a l o. ap (λ b. cond b (f a) r.nil) (le_false j (e - a) (omega (arith, h, l, o))))
      ∙ up_to-same (e - j) _ f (λ a l. ap (λ b. cond b (f a) r.nil) (le_true j (e - a) (omega (arith, l, h))))
      ∙ sym (ap (λ b. cond b (up_to r (e - j) f) r.nil) (le_true j e h))

  -- a power in the second factor
  pub convolved-power : (f g : List ℕ → C) (j : ℕ) (m : List ℕ) → 0 < j → convolved r f (at_power r j g) m ≡ at_power r j (convolved r f g) m
  convolved-power f g j [] h = ap (λ b. r.times (f []) (cond b (g ((0 - j) ∷ [])) r.nil)) (le_false j 0 h) ∙ times_nil r _ ∙ sym (ap (λ b. cond b (convolved r f g ((0 - j) ∷ [])) r.nil) (le_false j 0 h))
  convolved-power f g j (e ∷ m) h =
      up_to-same e _ (λ a. cond (nat_le j (e - a)) (convolved r (λ u. f (a ∷ u)) (λ v. g ((e - j - a) ∷ v)) m) r.nil)
      (λ a l. convolved-cond (nat_le j (e - a)) (λ u. f (a ∷ u)) (λ v. g ((e - a - j) ∷ v)) m ∙ ap (λ n. cond (nat_le j (e - a)) (convolved r (λ u. f (a ∷ u)) (λ v. g (n ∷ v)) m) r.nil) (let q : e - a - j ≡ e - j - a = omega arith in q))
      ∙ cut (λ a. convolved r (λ u. f (a ∷ u)) (λ v. g ((e - j - a) ∷ v)) m) j e (cases_lt e j)

  pub power-convolved : (f g : List ℕ → C) (j : ℕ) (m : List ℕ) → 0 < j → convolved r (at_power r j f) g m ≡ at_power r j (convolved r f g) m
  power-convolved f g j m h = convolved-comm (at_power r j f) g m ∙ convolved-power g f j m h ∙ ap (λ x. cond (nat_le j (first m)) x r.nil) (convolved-comm g f ((first m - j) ∷ others m))

  pub plus-convolved : (f f' g : List ℕ → C) (m : List ℕ) → convolved r (λ u. r.plus (f u) (f' u)) g m ≡ r.plus (convolved r f g m) (convolved r f' g m)
  plus-convolved f f' g m = convolved-comm (λ u. r.plus (f u) (f' u)) g m ∙ convolved-plus g f f' m ∙ ap₂ r.plus (convolved-comm g f m) (convolved-comm g f' m)

  is_zero_not : (e : ℕ) → 0 < e → (e == 0) ≡ false
  is_zero_not e h = grind arith

  others_by : (f g : List ℕ → C) (m : List ℕ) (e a : ℕ) → 0 < e → (a < 1) ⊎ (1 ≤ a) → convolved r (λ u. cond (a == 0) (f u) r.nil) (λ v. cond (e - a == 0) (g v) r.nil) m ≡ r.nil
  others_by f g m e a h (inl l) = convolved-nil (λ u. cond (a == 0) (f u) r.nil) (λ v. cond (e - a == 0) (g v) r.nil) m (λ v. ap (λ b. cond b (g v) r.nil) (is_zero_not (e - a) (omega (arith, h, l))))
  others_by f g m e a h (inr l) = nil-convolved (λ u. cond (a == 0) (f u) r.nil) (λ v. cond (e - a == 0) (g v) r.nil) m (λ u. ap (λ b. cond b (f u) r.nil) (is_zero_not a (omega (arith, l))))

  -- the first atom in neither factor
  pub convolved-others : (f g : List ℕ → C) (m : List ℕ) → convolved r (at_others r f) (at_others r g) m ≡ at_others r (convolved r f g) m
  convolved-others f g [] = refl
  convolved-others f g (zero ∷ m) = ap (λ n. convolved r f (λ v. cond (n == 0) (g v) r.nil) m) (let q : 0 - 0 ≡ 0 = omega arith in q)
  convolved-others f g (suc e ∷ m) =
      up_to-nil (suc e) _ (λ a l. others_by f g m (suc e) a (omega arith) (cases_lt a 1))
      ∙ sym (ap (λ b. cond b (convolved r f g m) r.nil) (is_zero_not (suc e) (omega arith)))

  -- a constant as the second factor
  pub convolved-constant : (f : List ℕ → C) (c : C) (m : List ℕ) → convolved r f (coefficient r (constant c)) m ≡ r.times (f m) c
  convolved-constant f c [] = refl
  convolved-constant f c (e ∷ m) =
      up_to-last e _ (λ a l. convolved-nil (λ u. f (a ∷ u)) (λ v. cond ((e - a == 0) && is_one v) c r.nil) m (λ v. ap (λ b. cond (b && is_one v) c r.nil) (is_zero_not (e - a) (omega (arith, l)))))
      ∙ ap (λ n. convolved r (λ u. f (e ∷ u)) (λ v. cond ((n == 0) && is_one v) c r.nil) m) (let q : e - e ≡ 0 = omega arith in q)
      ∙ convolved-constant (λ u. f (e ∷ u)) c m
