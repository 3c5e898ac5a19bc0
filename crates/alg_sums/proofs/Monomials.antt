-- Products of monomials, and their order.
use Rattle.std.proofs.Common.{◌≡◌, ℕ, suc, ◌+◌, ◌<◌, List, [], ◌∷◌, ◌++◌, refl, sym, ap, ◌∙◌, arith, Ordering, Less, Equal, Greater}
use Rattle.std.specs.Ordering.{match_ordering, nat_cmp, ordering_then, ordering_reverse, flip_args, then_cmp, on}
use Rattle.std.specs.Cmp.{IsTotalOrder, nat_cmp_total, then_total, on_total, back_total, ranked}
use Rattle.std.specs.Cmp.Lexicographic.{slice_cmp, lists_total}
use Rattle.alg_sums.specs.Sum.{IsStrict}
use Rattle.alg_sums.specs.Monomial.{IsAfter, IsMonomial, times_power, times, degree, by_exponents, monomial_cmp}

module _ {A : Type 0} (order : A → A → Ordering) (s : IsStrict order) where
  pub equal_self : (a : A) → order a a ≡ Equal
  equal_self a = self (order a a) (s.total.antisymm a a)
    where
      self : (o : Ordering) → o ≡ ordering_reverse o → o ≡ Equal
      self Less e = cc
      self Equal e = refl
      self Greater e = cc

  pub turned : (a b : A) → order a b ≡ Greater → order b a ≡ Less
  turned a b h = s.total.antisymm b a ∙ ap ordering_reverse h

  pub turned_less : (a b : A) → order a b ≡ Less → order b a ≡ Greater
  turned_less a b h = s.total.antisymm b a ∙ ap ordering_reverse h

  -- ---- a product of monomials is one
  after_step : (a : A) (p q : A × ℕ) (m : List (A × ℕ)) (o : Ordering) → order a p.0 ≡ Less → IsAfter order a (q ∷ m) → IsAfter order a (times_power order p m) → IsAfter order a (match_ordering o (p ∷ q ∷ m) ((q.0, p.1 + q.1) ∷ m) (q ∷ times_power order p m))
  after_step a p q m Less h i ih = (h, i)
  after_step a p q m Equal h i ih = i
  after_step a p q m Greater h i ih = (i.0, ih)

  pub after_power : (a : A) (p : A × ℕ) (m : List (A × ℕ)) → order a p.0 ≡ Less → IsAfter order a m → IsAfter order a (times_power order p m)
  after_power a p [] h i = (h, tt)
  after_power a p (q ∷ m) h i = after_step a p q m (order p.0 q.0) h i (after_power a p m h i.1)

  pub after_less : (a b : A) (m : List (A × ℕ)) → order a b ≡ Less → IsAfter order b m → IsAfter order a m
  after_less a b [] h i = tt
  after_less a b (p ∷ m) h i = (s.total.trans a b p.0 h i.0, after_less a b m h i.1)

  monomial_step : (G : A → Type 0) (p q : A × ℕ) (m : List (A × ℕ)) (o : Ordering) → order p.0 q.0 ≡ o → 0 < p.1 → G p.0 → IsMonomial order G (q ∷ m) → IsMonomial order G (times_power order p m) → IsMonomial order G (match_ordering o (p ∷ q ∷ m) ((q.0, p.1 + q.1) ∷ m) (q ∷ times_power order p m))
  monomial_step G p q m Less h i g n ih = ((h, after_less p.0 q.0 m h n.0), i, g, n)
  monomial_step G p q m Equal h i g n ih = (n.0, omega (arith, n.1), n.2, n.3)
  monomial_step G p q m Greater h i g n ih = let l = turned p.0 q.0 h in (after_power q.0 p m l n.0, n.1, n.2, ih)

  pub times_power-IsMonomial : (G : A → Type 0) (p : A × ℕ) (m : List (A × ℕ)) → 0 < p.1 → G p.0 → IsMonomial order G m → IsMonomial order G (times_power order p m)
  times_power-IsMonomial G p [] h g n = (tt, h, g, tt)
  times_power-IsMonomial G p (q ∷ m) h g n = monomial_step G p q m (order p.0 q.0) refl h g n (times_power-IsMonomial G p m h g n.3)

  pub times-IsMonomial : (G : A → Type 0) (u v : List (A × ℕ)) → IsMonomial order G u → IsMonomial order G v → IsMonomial order G (times order u v)
  times-IsMonomial G [] v m n = n
  times-IsMonomial G (p ∷ u) v m n = times_power-IsMonomial G p (times order u v) m.1 m.2 (times-IsMonomial G u v m.3 n)

  -- ---- products in order
  pub before_power : (p : A × ℕ) (m : List (A × ℕ)) → IsAfter order p.0 m → times_power order p m ≡ p ∷ m
  before_power p [] h = refl
  before_power p (q ∷ m) h = rw h.0 refl

  -- the atoms of u are before those of v
  pub times-append : (G : A → Type 0) (u v : List (A × ℕ)) → IsMonomial order G (u ++ v) → times order u v ≡ u ++ v
  times-append G [] v m = refl
  times-append G (p ∷ u) v m = ap (times_power order p) (times-append G u v m.3) ∙ before_power p (u ++ v) m.0

  pub times-nil : (G : A → Type 0) (u : List (A × ℕ)) → IsMonomial order G u → times order u [] ≡ u
  times-nil G [] m = refl
  times-nil G (p ∷ u) m = ap (times_power order p) (times-nil G u m.3) ∙ before_power p u m.0

  -- one more factor of an atom
  pub times-one : (a : A) (n : ℕ) → times order ((a, suc n) ∷ []) ((a, 1) ∷ []) ≡ (a, suc (suc n)) ∷ []
  times-one a n = rw (equal_self a) (ap (λ k. (a, k) ∷ []) (let e : suc n + 1 ≡ suc (suc n) = omega arith in e))

  -- ---- the order of monomials is total, and only equal monomials tie
  abbrev back_power : (A × ℕ) → (A × ℕ) → Ordering
  back_power = flip_args (then_cmp (on (λ p. p.0) order) (on (λ p. p.1) (flip_args nat_cmp)))

  back_power_total : IsTotalOrder back_power
  back_power_total = back_total (then_total (on_total (λ p. p.0) s.total) (on_total (λ p. p.1) (back_total nat_cmp_total)))

  then_match : (o o' r : Ordering) → match_ordering o Less (ordering_then o' r) Greater ≡ ordering_then (ordering_then o o') r
  then_match Less o' r = refl
  then_match Equal o' r = refl
  then_match Greater o' r = refl

  by_is : (u v : List (A × ℕ)) → by_exponents order u v ≡ slice_cmp back_power v u
  by_is [] [] = refl
  by_is [] (q ∷ v) = refl
  by_is (p ∷ u) [] = refl
  by_is (p ∷ u) (q ∷ v) = then_match (order p.0 q.0) (nat_cmp q.1 p.1) (by_exponents order u v) ∙ ap (ordering_then (back_power q p)) (by_is u v)

  by_exponents_total : IsTotalOrder (by_exponents order)
  by_exponents_total =
      let t = back_total (lists_total back_power_total) in
      record {
        antisymm = λ x y. by_is x y ∙ t.antisymm x y ∙ ap ordering_reverse (sym (by_is y x));
        trans = λ x y z h k. by_is x z ∙ t.trans x y z (sym (by_is x y) ∙ h) (sym (by_is y z) ∙ k);
        congr = λ x y z h. by_is x z ∙ t.congr x y z (sym (by_is x y) ∙ h) ∙ sym (by_is y z);
      }

  same_powers : (p q : A × ℕ) (u v : List (A × ℕ)) → p.0 ≡ q.0 → p.1 ≡ q.1 → u ≡ v → p ∷ u ≡ q ∷ v
  same_powers p q u v h i j = let e : p ≡ q = rw (h, i) refl in cc

  ties_step : (p q : A × ℕ) (u v : List (A × ℕ)) (o o' : Ordering) → order p.0 q.0 ≡ o → o' ≡ nat_cmp q.1 p.1 → (by_exponents order u v ≡ Equal → u ≡ v) → match_ordering o Less (ordering_then o' (by_exponents order u v)) Greater ≡ Equal → p ∷ u ≡ q ∷ v
  ties_step p q u v Less o' h i ih e = cc
  ties_step p q u v Greater o' h i ih e = cc
  ties_step p q u v Equal Less h i ih e = cc
  ties_step p q u v Equal Greater h i ih e = cc
  ties_step p q u v Equal Equal h i ih e = same_powers p q u v (s.ties p.0 q.0 h) (sym (ranked q.1 p.1 Equal i)) (ih e)

  ties_exponents : (u v : List (A × ℕ)) → by_exponents order u v ≡ Equal → u ≡ v
  ties_exponents [] [] e = refl
  ties_exponents [] (q ∷ v) e = cc
  ties_exponents (p ∷ u) [] e = cc
  ties_exponents (p ∷ u) (q ∷ v) e = ties_step p q u v (order p.0 q.0) (nat_cmp q.1 p.1) refl refl (ties_exponents u v) e

  then_equal : (o r : Ordering) → ordering_then o r ≡ Equal → r ≡ Equal
  then_equal Less r e = cc
  then_equal Equal r e = e
  then_equal Greater r e = cc

  pub monomial_cmp-IsStrict : IsStrict (monomial_cmp order)
  monomial_cmp-IsStrict = record {
    total = then_total (on_total degree (back_total nat_cmp_total)) by_exponents_total;
    ties = λ x y h. ties_exponents x y (then_equal (nat_cmp (degree y) (degree x)) (by_exponents order x y) h);
  }
