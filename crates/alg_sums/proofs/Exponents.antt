-- Products of monomials and of maps, over lists of exponents.
use Rattle.std.proofs.Common.{◌≡◌, ℕ, zero, suc, ◌+◌, List, [], ◌∷◌, length, refl, ap, ◌∙◌, arith, Ordering, Less}
use Rattle.alg_sums.specs.Monomial.{IsAfter, times_power, times}
use Rattle.alg_sums.specs.Sum.{IsStrict}
use Rattle.alg_sums.specs.Exponents.{put, sparse, IsFirst, AreRising, added}
use Rattle.alg_sums.proofs.Monomials.{equal_self, turned_less, after_power, before_power}

-- ---- monomials
module _ {A : Type 0} (order : A → A → Ordering) (s : IsStrict order) where
  after_put : (a b : A) (n : ℕ) (u : List (A × ℕ)) → order a b ≡ Less → IsAfter order a u → IsAfter order a (put b n u)
  after_put a b zero u l h = h
  after_put a b (suc n) u l h = (l, h)

  pub after_sparse : (a : A) (names : List A) (d : List ℕ) → IsFirst order a names → IsAfter order a (sparse names d)
  after_sparse a [] d h = tt
  after_sparse a (b ∷ names) [] h = tt
  after_sparse a (b ∷ names) (n ∷ d) h = after_put a b n (sparse names d) h.0 (after_sparse a names d h.1)

  after_times : (a : A) (u v : List (A × ℕ)) → IsAfter order a u → IsAfter order a v → IsAfter order a (times order u v)
  after_times a [] v h i = i
  after_times a (p ∷ u) v h i = after_power order s a p (times order u v) h.0 (after_times a u v h.1 i)

  -- a power of a lesser atom goes to the front
  pass_front : (a : A) (n : ℕ) (u v : List (A × ℕ)) → IsAfter order a u → times order u ((a, n) ∷ v) ≡ (a, n) ∷ times order u v
  pass_front a n [] v h = refl
  pass_front a n (p ∷ u) v h = ap (times_power order p) (pass_front a n u v h.1) ∙ (rw (turned_less order s a p.0 h.0) refl)

  pub times-put : (a : A) (m n : ℕ) (u v : List (A × ℕ)) → IsAfter order a u → IsAfter order a v → times order (put a m u) (put a n v) ≡ put a (m + n) (times order u v)
  times-put a zero zero u v h i = ap (λ k. put a k (times order u v)) (let e : zero ≡ zero + zero = omega arith in e)
  times-put a zero (suc n) u v h i = pass_front a (suc n) u v h ∙ ap (λ k. put a k (times order u v)) (let e : suc n ≡ zero + suc n = omega arith in e)
  times-put a (suc m) zero u v h i = before_power order s (a, suc m) (times order u v) (after_times a u v h i) ∙ ap (λ k. put a k (times order u v)) (let e : suc m ≡ suc m + zero = omega arith in e)
  times-put a (suc m) (suc n) u v h i =
      ap (times_power order (a, suc m)) (pass_front a (suc n) u v h)
      ∙ rw (equal_self order s a) (ap (λ k. (a, k) ∷ times order u v) (let e : suc m + suc n ≡ suc (m + suc n) = omega arith in e))
      ∙ ap (λ k. put a k (times order u v)) (let e : suc (m + suc n) ≡ suc m + suc n = omega arith in e)

  -- the exponents of a product add
  pub times-sparse : (names : List A) (d e : List ℕ) → AreRising order names → length d ≡ length names → length e ≡ length names → times order (sparse names d) (sparse names e) ≡ sparse names (added d e)
  times-sparse [] [] [] h i j = refl
  times-sparse [] [] (n ∷ e) h i j = refl
  times-sparse [] (m ∷ d) [] h i j = refl
  times-sparse [] (m ∷ d) (n ∷ e) h i j = refl
  times-sparse (a ∷ names) [] e h i j = absurd (omega arith)
  times-sparse (a ∷ names) (m ∷ d) [] h i j = absurd (omega arith)
  times-sparse (a ∷ names) (m ∷ d) (n ∷ e) h i j =
      times-put a m n (sparse names d) (sparse names e) (after_sparse a names d h.0) (after_sparse a names e h.0)
      ∙ ap (put a (m + n)) (times-sparse names d e h.1 (omega arith) (omega arith))
