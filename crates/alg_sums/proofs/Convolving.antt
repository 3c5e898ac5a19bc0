-- Laws of the product of two maps.
use Rattle.std.proofs.Common.{◌≡◌, ℕ, suc, zero, Bool, true, false, cond, ◌+◌, ◌-◌, ◌<◌, ◌≤◌, List, [], ◌∷◌, length, refl, sym, ap, ap₂, ◌∙◌, arith, ◌⊎◌, inl, inr}
use Rattle.std.specs.Prelude.{◌&&◌, ◌==◌}
use Rattle.std.specs.Cmp.{both_ways}
use Rattle.std.proofs.lemmas.Bool.{cases_lt}
use Rattle.std.proofs.lemmas.Bool.Decides.{nat_tests}
use Rattle.alg_sums.specs.Coefficients.{Coefficients}
use Rattle.alg_sums.specs.Exponents.{added, same_exponents, up_to, convolved}

module _ {C : Type 0} (r : Coefficients C) where
  plus_nil_left : (a : C) → r.plus r.nil a ≡ a
  plus_nil_left a = r.plus_comm r.nil a ∙ r.plus_nil a

  plus_left : (a b c : C) → r.plus a (r.plus b c) ≡ r.plus b (r.plus a c)
  plus_left a b c = sym (r.plus_assoc a b c) ∙ ap (λ x. r.plus x c) (r.plus_comm a b) ∙ r.plus_assoc b a c

  -- sums
  pub up_to-same : (e : ℕ) (f g : ℕ → C) → ((a : ℕ) → a ≤ e → f a ≡ g a) → up_to r e f ≡ up_to r e g
  up_to-same zero f g h = h 0 (omega arith)
  up_to-same (suc e) f g h = ap₂ r.plus (up_to-same e f g (λ a l. h a (omega (arith, l)))) (h (suc e) (omega arith))

  pub up_to-nil : (e : ℕ) (f : ℕ → C) → ((a : ℕ) → a ≤ e → f a ≡ r.nil) → up_to r e f ≡ r.nil
  up_to-nil zero f h = h 0 (omega arith)
  up_to-nil (suc e) f h = ap₂ r.plus (up_to-nil e f (λ a l. h a (omega (arith, l)))) (h (suc e) (omega arith)) ∙ r.plus_nil r.nil

  four : (a b c d : C) → r.plus (r.plus a b) (r.plus c d) ≡ r.plus (r.plus a c) (r.plus b d)
  four a b c d = r.plus_assoc a b (r.plus c d) ∙ ap (λ x. r.plus a x) (plus_left b c d) ∙ sym (r.plus_assoc a c (r.plus b d))

  up_to-plus : (e : ℕ) (f g : ℕ → C) → up_to r e (λ a. r.plus (f a) (g a)) ≡ r.plus (up_to r e f) (up_to r e g)
  up_to-plus zero f g = refl
  up_to-plus (suc e) f g = ap (λ x. r.plus x (r.plus (f (suc e)) (g (suc e)))) (up_to-plus e f g) ∙ four _ _ _ _

  -- only one summand counts
  only_step : (e j : ℕ) (f : ℕ → C) → j ≤ suc e → ((a : ℕ) → a ≤ suc e → (a < j) ⊎ (j < a) → f a ≡ r.nil) → (j ≤ e → up_to r e f ≡ f j) → (e < j) ⊎ (j ≤ e) → up_to r (suc e) f ≡ f j
  only_step e j f l h ih (inl m) = ap (λ x. r.plus x (f (suc e))) (up_to-nil e f (λ a n. h a (omega (arith, n)) (inl (omega (arith, n, m))))) ∙ plus_nil_left (f (suc e)) ∙ ap f (omega (arith, m, l))
  only_step e j f l h ih (inr m) = ap (r.plus (up_to r e f)) (h (suc e) (omega arith) (inr (omega (arith, m)))) ∙ r.plus_nil (up_to r e f) ∙ ih m

  pub only : (e j : ℕ) (f : ℕ → C) → j ≤ e → ((a : ℕ) → a ≤ e → (a < j) ⊎ (j < a) → f a ≡ r.nil) → up_to r e f ≡ f j
  only zero j f l h = ap f (omega arith)
  only (suc e) j f l h = only_step e j f l h (λ m. only e j f m (λ a n. h a (omega (arith, n)))) (cases_lt e j)

  -- products of maps
  pub convolved-same : (f f' g g' : List ℕ → C) (m : List ℕ) → ((u : List ℕ) → length u ≡ length m → f u ≡ f' u) → ((v : List ℕ) → length v ≡ length m → g v ≡ g' v) → convolved r f g m ≡ convolved r f' g' m
  convolved-same f f' g g' [] h k = ap₂ r.times (h [] refl) (k [] refl)
  convolved-same f f' g g' (e ∷ m) h k = up_to-same e _ _ (λ a l. convolved-same (λ u. f (a ∷ u)) (λ u. f' (a ∷ u)) (λ v. g ((e - a) ∷ v)) (λ v. g' ((e - a) ∷ v)) m (λ u n. h (a ∷ u) (ap suc n)) (λ v n. k ((e - a) ∷ v) (ap suc n)))

  plus_times : (a b c : C) → r.times (r.plus a b) c ≡ r.plus (r.times a c) (r.times b c)
  plus_times a b c = r.times_comm (r.plus a b) c ∙ r.times_plus c a b ∙ ap₂ r.plus (r.times_comm c a) (r.times_comm c b)

  pub convolved-plus : (f g g' : List ℕ → C) (m : List ℕ) → convolved r f (λ v. r.plus (g v) (g' v)) m ≡ r.plus (convolved r f g m) (convolved r f g' m)
  convolved-plus f g g' [] = r.times_plus _ _ _
  convolved-plus f g g' (e ∷ m) =
      up_to-same e _ _ (λ a l. convolved-plus (λ u. f (a ∷ u)) (λ v. g ((e - a) ∷ v)) (λ v. g' ((e - a) ∷ v)) m)
      ∙ up_to-plus e _ _

  pub plus-convolved : (f f' g : List ℕ → C) (m : List ℕ) → convolved r (λ u. r.plus (f u) (f' u)) g m ≡ r.plus (convolved r f g m) (convolved r f' g m)
  plus-convolved f f' g [] = plus_times _ _ _
  plus-convolved f f' g (e ∷ m) =
      up_to-same e _ _ (λ a l. plus-convolved (λ u. f (a ∷ u)) (λ u. f' (a ∷ u)) (λ v. g ((e - a) ∷ v)) m)
      ∙ up_to-plus e _ _

  times_nil : (a : C) → r.times a r.nil ≡ r.nil
  times_nil a =
      let d : r.plus (r.times a r.nil) (r.times a r.nil) ≡ r.times a r.nil = sym (r.times_plus a r.nil r.nil) ∙ ap (λ x. r.times a x) (r.plus_nil r.nil) in
      sym (r.plus_nil _) ∙ ap (λ x. r.plus (r.times a r.nil) x) (sym (r.plus_minus (r.times a r.nil))) ∙ sym (r.plus_assoc _ _ _) ∙ ap (λ x. r.plus x (r.minus (r.times a r.nil))) d ∙ r.plus_minus _

  nil_times : (a : C) → r.times r.nil a ≡ r.nil
  nil_times a = r.times_comm r.nil a ∙ times_nil a

  pub convolved-nil : (f g : List ℕ → C) (m : List ℕ) → ((v : List ℕ) → g v ≡ r.nil) → convolved r f g m ≡ r.nil
  convolved-nil f g [] h = ap (λ x. r.times (f []) x) (h []) ∙ times_nil _
  convolved-nil f g (e ∷ m) h = up_to-nil e _ (λ a l. convolved-nil (λ u. f (a ∷ u)) (λ v. g ((e - a) ∷ v)) m (λ v. h ((e - a) ∷ v)))

  pub nil-convolved : (f g : List ℕ → C) (m : List ℕ) → ((u : List ℕ) → f u ≡ r.nil) → convolved r f g m ≡ r.nil
  nil-convolved f g [] h = ap (λ x. r.times x (g [])) (h []) ∙ nil_times _
  nil-convolved f g (e ∷ m) h = up_to-nil e _ (λ a l. nil-convolved (λ u. f (a ∷ u)) (λ v. g ((e - a) ∷ v)) m (λ u. h (a ∷ u)))

  -- ---- maps of one term
  abbrev pub single : List ℕ → C → List ℕ → C
  single d c u = cond (same_exponents d u) c r.nil

  not_same : (a b : ℕ) → (a < b) ⊎ (b < a) → (a == b) ≡ false
  not_same a b (inl h) = grind arith
  not_same a b (inr h) = grind arith

  same_self : (a : ℕ) → (a == a) ≡ true
  same_self a = grind (arith, nat_tests)

  no_head : (x a : ℕ) (d u : List ℕ) (c : C) → (x == a) ≡ false → single (x ∷ d) c (a ∷ u) ≡ r.nil
  no_head x a d u c h = ap (λ b. cond (b && same_exponents d u) c r.nil) h

  the_head : (x a : ℕ) (d u : List ℕ) (c : C) → (x == a) ≡ true → single (x ∷ d) c (a ∷ u) ≡ single d c u
  the_head x a d u c h = ap (λ b. cond (b && same_exponents d u) c r.nil) h

  swap_sides : (a j : ℕ) → (a < j) ⊎ (j < a) → (j < a) ⊎ (a < j)
  swap_sides a j (inl h) = inr h
  swap_sides a j (inr h) = inl h

  rest_same : (x y e : ℕ) → x ≤ e → (y == e - x) ≡ (x + y == e)
  rest_same x y e l = both_ways (y == e - x) (x + y == e) (λ h. grind (arith, nat_tests, h)) (λ h. grind (arith, nat_tests, h))

  too_many : (x y e : ℕ) → e < x → (x + y == e) ≡ false
  too_many x y e l = not_same (x + y) e (inr (omega (arith, l)))

  last_case : (b : Bool) (y k : ℕ) (d e m : List ℕ) (c c' : C) → (y == k) ≡ b → convolved r (single d c) (single e c') m ≡ single (added d e) (r.times c c') m → convolved r (single d c) (λ v. single (y ∷ e) c' (k ∷ v)) m ≡ cond (b && same_exponents (added d e) m) (r.times c c') r.nil
  last_case true y k d e m c c' h ih = convolved-same (single d c) (single d c) (λ v. single (y ∷ e) c' (k ∷ v)) (single e c') m (λ u n. refl) (λ v n. the_head y k e v c' h) ∙ ih
  last_case false y k d e m c c' h ih = convolved-nil (single d c) (λ v. single (y ∷ e) c' (k ∷ v)) m (λ v. no_head y k e v c' h)

  one_step : (x y k : ℕ) (d e m : List ℕ) (c c' : C) → (k < x) ⊎ (x ≤ k) → convolved r (single d c) (single e c') m ≡ single (added d e) (r.times c c') m → convolved r (single (x ∷ d) c) (single (y ∷ e) c') (k ∷ m) ≡ single (added (x ∷ d) (y ∷ e)) (r.times c c') (k ∷ m)
  one_step x y k d e m c c' (inl l) ih =
      up_to-nil k _ (λ a n. nil-convolved (λ u. single (x ∷ d) c (a ∷ u)) (λ v. single (y ∷ e) c' ((k - a) ∷ v)) m (λ u. no_head x a d u c (not_same x a (inr (omega (arith, n, l))))))
      ∙ sym (ap (λ b. cond (b && same_exponents (added d e) m) (r.times c c') r.nil) (too_many x y k l))
  one_step x y k d e m c c' (inr l) ih =
      only k x _ l (λ a n q. nil-convolved (λ u. single (x ∷ d) c (a ∷ u)) (λ v. single (y ∷ e) c' ((k - a) ∷ v)) m (λ u. no_head x a d u c (not_same x a (swap_sides a x q))))
      ∙ convolved-same (λ u. single (x ∷ d) c (x ∷ u)) (single d c) (λ v. single (y ∷ e) c' ((k - x) ∷ v)) (λ v. single (y ∷ e) c' ((k - x) ∷ v)) m (λ u n. the_head x x d u c (same_self x)) (λ v n. refl)
      ∙ last_case (y == k - x) y (k - x) d e m c c' refl ih
      ∙ ap (λ b. cond (b && same_exponents (added d e) m) (r.times c c') r.nil) (rest_same x y k l)

  -- the product of two terms
  pub convolved-single : (d e m : List ℕ) (c c' : C) → length d ≡ length m → length e ≡ length m → convolved r (single d c) (single e c') m ≡ single (added d e) (r.times c c') m
  convolved-single [] [] [] c c' h i = refl
  convolved-single [] (y ∷ e) [] c c' h i = absurd (omega arith)
  convolved-single (x ∷ d) e [] c c' h i = absurd (omega arith)
  convolved-single [] e (k ∷ m) c c' h i = absurd (omega arith)
  convolved-single (x ∷ d) [] (k ∷ m) c c' h i = absurd (omega arith)
  convolved-single (x ∷ d) (y ∷ e) (k ∷ m) c c' h i = one_step x y k d e m c c' (cases_lt k x) (convolved-single d e m c c' (omega arith) (omega arith))
