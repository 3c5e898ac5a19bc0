-- The map of a list of terms over given atoms, as a function of their exponents.
use Rattle.std.proofs.Common.{◌≡◌, ℕ, zero, suc, List, [], ◌∷◌, ◌++◌, length, true, cond, refl, sym, ap, ap₂, subst, ◌∙◌, arith, Ordering, Less, Equal, Greater}
use Rattle.std.specs.Prelude.{◌==◌, ◌&&◌}
use Rattle.std.specs.Ordering.{eq_by_cmp, is_eq}
use Rattle.std.specs.Cmp.{both_ways, tied_itself}
use Rattle.std.proofs.lemmas.Bool.{and_parts}
use Rattle.std.proofs.lemmas.Bool.Decides.{nat_tests}
use Rattle.alg_sums.specs.Coefficients.{Coefficients}
use Rattle.alg_sums.specs.Monomial.{IsAfter, times, monomial_cmp}
use Rattle.alg_sums.specs.Sum.{IsStrict, total_at, IsSameMap, scaled, products}
use Rattle.alg_sums.specs.Exponents.{put, sparse, AreRising, added, same_exponents, convolved}
use Rattle.alg_sums.proofs.Monomials.{equal_self, monomial_cmp-IsStrict}
use Rattle.alg_sums.specs.Sum.{AllTerms}
use Rattle.alg_sums.proofs.Exponents.{after_sparse, times-sparse}
use Rattle.alg_sums.proofs.Convolving.{convolved-same, convolved-plus, plus-convolved, convolved-nil, nil-convolved, single, convolved-single}
use Rattle.alg_sums.proofs.Unique.{map_from_keys}

equal_by : (m n : ℕ) → (m == n) ≡ true → m ≡ n
equal_by m n e = grind (arith, nat_tests, e)

same_self : (d : List ℕ) → same_exponents d d ≡ true
same_self [] = refl
same_self (n ∷ d) = ap₂ (λ a b. a && b) (let e : (n == n) ≡ true = grind (arith, nat_tests) in e) (same_self d)

same_equal : (d e : List ℕ) → same_exponents d e ≡ true → d ≡ e
same_equal [] [] h = refl
same_equal [] (n ∷ e) h = cc
same_equal (m ∷ d) [] h = cc
same_equal (m ∷ d) (n ∷ e) h =
    let k = and_parts (m == n) (same_exponents d e) h in
    ap₂ (λ a b. a ∷ b) (equal_by m n k.0) (same_equal d e k.1)

is_eq_equal : (o : Ordering) → is_eq o ≡ true → o ≡ Equal
is_eq_equal Less e = cc
is_eq_equal Equal e = refl
is_eq_equal Greater e = cc

module _ {A : Type 0} (order : A → A → Ordering) (s : IsStrict order) where
  put-inj : (a : A) (m n : ℕ) (u v : List (A × ℕ)) → IsAfter order a u → IsAfter order a v → put a m u ≡ put a n v → (m ≡ n) × (u ≡ v)
  put-inj a zero zero u v h i e = (refl, e)
  put-inj a zero (suc n) u v h i e = let k = subst (IsAfter order a) e h in absurd (let x = k.0 in let y = equal_self order s a in cc)
  put-inj a (suc m) zero u v h i e = let k = subst (IsAfter order a) (sym e) i in absurd (let x = k.0 in let y = equal_self order s a in cc)
  put-inj a (suc m) (suc n) u v h i e =
      let x : ◌≡◌ {A = A × ℕ} (a, suc m) (a, suc n) = cc in
      let y : u ≡ v = cc in
      (ap (λ (p : A × ℕ). p.1) x, y)

  pub sparse-inj : (names : List A) (d e : List ℕ) → AreRising order names → length d ≡ length names → length e ≡ length names → sparse names d ≡ sparse names e → d ≡ e
  sparse-inj [] [] [] h i j q = refl
  sparse-inj [] [] (n ∷ e) h i j q = absurd (omega arith)
  sparse-inj [] (m ∷ d) e h i j q = absurd (omega arith)
  sparse-inj (a ∷ names) [] e h i j q = absurd (omega arith)
  sparse-inj (a ∷ names) (m ∷ d) [] h i j q = absurd (omega arith)
  sparse-inj (a ∷ names) (m ∷ d) (n ∷ e) h i j q =
      let k = put-inj a m n (sparse names d) (sparse names e) (after_sparse order s a names d h.0) (after_sparse order s a names e h.0) q in
      ap₂ (λ x y. x ∷ y) k.0 (sparse-inj names d e h.1 (omega arith) (omega arith) k.1)

  module _ (names : List A) (rising : AreRising order names) where
    -- a monomial over these atoms, with its exponents
    pub record IsOver (u : List (A × ℕ)) : Type 0 where
      pub exponents : List ℕ
      pub even : length exponents ≡ length names
      pub spells : u ≡ sparse names exponents

    pub sparse_over : (d : List ℕ) → length d ≡ length names → IsOver (sparse names d)
    sparse_over d h = record { exponents = d; even = h; spells = refl }

    same-sparse : (d e : List ℕ) → length d ≡ length names → length e ≡ length names → eq_by_cmp (monomial_cmp order) (sparse names d) (sparse names e) ≡ same_exponents d e
    same-sparse d e h i =
        let t = monomial_cmp-IsStrict order s in
        both_ways (eq_by_cmp (monomial_cmp order) (sparse names d) (sparse names e)) (same_exponents d e)
        (λ q. let k : d ≡ e = sparse-inj names d e rising h i (t.ties (sparse names d) (sparse names e) (is_eq_equal (monomial_cmp order (sparse names d) (sparse names e)) q)) in ap (same_exponents d) (sym k) ∙ same_self d)
        (λ q. let k : d ≡ e = same_equal d e q in ap (λ x. is_eq (monomial_cmp order (sparse names d) (sparse names x))) (sym k) ∙ ap is_eq (tied_itself t.total (sparse names d)))

    added-length : (d e : List ℕ) → length d ≡ length e → length (added d e) ≡ length d
    added-length [] e h = refl
    added-length (m ∷ d) [] h = absurd (omega arith)
    added-length (m ∷ d) (n ∷ e) h = ap suc (added-length d e (omega arith))

    module _ {C : Type 0} (r : Coefficients C) where
      -- the coefficient of the monomial with these exponents
      abbrev pub at : List (List (A × ℕ) × C) → List ℕ → C
      at p m = total_at r (eq_by_cmp (monomial_cmp order)) (sparse names m) p

      abbrev pub AreOver : List (List (A × ℕ) × C) → Type 0
      AreOver = AllTerms (λ (t : List (A × ℕ) × C). IsOver t.0)

      -- one term
      first_at : (t : List (A × ℕ) × C) (d m : List ℕ) → t.0 ≡ sparse names d → length d ≡ length names → length m ≡ length names → cond (eq_by_cmp (monomial_cmp order) t.0 (sparse names m)) t.1 r.nil ≡ single r d t.1 m
      first_at t d m e h i = ap (λ b. cond b t.1 r.nil) (ap (λ u. eq_by_cmp (monomial_cmp order) u (sparse names m)) e ∙ same-sparse d m h i)

      pub at_cons : (t : List (A × ℕ) × C) (p : List (List (A × ℕ) × C)) (h : IsOver t.0) (m : List ℕ) → length m ≡ length names → at (t ∷ p) m ≡ r.plus (single r h.exponents t.1 m) (at p m)
      at_cons t p h m i = ap (λ x. r.plus x (at p m)) (first_at t h.exponents m h.spells h.even i)

      pub nil_plus : (a : C) → r.plus r.nil a ≡ a
      nil_plus a = r.plus_comm r.nil a ∙ r.plus_nil a

      pub at-append : (p q : List (List (A × ℕ) × C)) (m : List ℕ) → at (p ++ q) m ≡ r.plus (at p m) (at q m)
      at-append [] q m = sym (nil_plus (at q m))
      at-append (t ∷ p) q m = ap (r.plus _) (at-append p q m) ∙ sym (r.plus_assoc _ (at p m) (at q m))

      product_term : (t u : List (A × ℕ) × C) (h : IsOver t.0) (i : IsOver u.0) → times order t.0 u.0 ≡ sparse names (added h.exponents i.exponents)
      product_term t u h i = ap₂ (times order) h.spells i.spells ∙ times-sparse order s names h.exponents i.exponents rising h.even i.even

      pub times_over : (t u : List (A × ℕ) × C) → IsOver t.0 → IsOver u.0 → IsOver (times order t.0 u.0)
      times_over t u h i = record { exponents = added h.exponents i.exponents; even = added-length h.exponents i.exponents (h.even ∙ sym i.even) ∙ h.even; spells = product_term t u h i }

      at-scaled : (t : List (A × ℕ) × C) (q : List (List (A × ℕ) × C)) (h : IsOver t.0) → AreOver q → (m : List ℕ) → length m ≡ length names → at (scaled r (times order) t q) m ≡ convolved r (single r h.exponents t.1) (at q) m
      at-scaled t [] h i m l = sym (convolved-nil r (single r h.exponents t.1) (λ v. r.nil) m (λ v. refl))
      at-scaled t (u ∷ q) h i m l =
          ap₂ r.plus
          (first_at (times order t.0 u.0, r.times t.1 u.1) (added h.exponents i.0.exponents) m (product_term t u h i.0) (added-length h.exponents i.0.exponents (h.even ∙ sym i.0.even) ∙ h.even) l
          ∙ sym (convolved-single r h.exponents i.0.exponents m t.1 u.1 (h.even ∙ sym l) (i.0.even ∙ sym l)))
          (at-scaled t q h i.1 m l)
          ∙ sym (convolved-plus r (single r h.exponents t.1) (single r i.0.exponents u.1) (at q) m)
          ∙ convolved-same r (single r h.exponents t.1) (single r h.exponents t.1) (λ v. r.plus (single r i.0.exponents u.1 v) (at q v)) (at (u ∷ q)) m (λ v n. refl) (λ v n. sym (at_cons u q i.0 v (n ∙ l)))

      -- the map of a product is the product of the maps
      pub at-products : (p q : List (List (A × ℕ) × C)) → AreOver p → AreOver q → (m : List ℕ) → length m ≡ length names → at (products r (times order) p q) m ≡ convolved r (at p) (at q) m
      at-products [] q h i m l = sym (nil-convolved r (λ u. r.nil) (at q) m (λ u. refl))
      at-products (t ∷ p) q h i m l =
          at-append (scaled r (times order) t q) (products r (times order) p q) m
          ∙ ap₂ r.plus (at-scaled t q h.0 i m l) (at-products p q h.1 i m l)
          ∙ sym (plus-convolved r (single r h.0.exponents t.1) (at p) (at q) m)
          ∙ convolved-same r (λ u. r.plus (single r h.0.exponents t.1 u) (at p u)) (at (t ∷ p)) (at q) (at q) m (λ u n. sym (at_cons t p h.0 u (n ∙ l))) (λ v n. refl)

      -- the maps are equal where they are at all lists of exponents
      pub map_from_exponents : (p q : List (List (A × ℕ) × C)) → AreOver p → AreOver q → ((m : List ℕ) → length m ≡ length names → at p m ≡ at q m) → IsSameMap r (eq_by_cmp (monomial_cmp order)) p q
      map_from_exponents p q h i e = map_from_keys r (monomial_cmp-IsStrict order s) IsOver p q h i (λ k g. subst (λ u. total_at r (eq_by_cmp (monomial_cmp order)) u p ≡ total_at r (eq_by_cmp (monomial_cmp order)) u q) (sym g.spells) (e g.exponents g.even))
