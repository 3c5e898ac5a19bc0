-- The absolute values of the coefficients of a list over a common denominator.
use Rattle.std.proofs.Common.{◌≡◌, ℕ, zero, suc, ◌+◌, ◌*◌, ◌≤◌, List, [], ◌∷◌, ◌++◌, Bool, true, false, cond, ap, ◌∙◌, arith, Ordering, Less, Equal, Greater}
use Rattle.std.specs.Ordering.{match_ordering}
use Rattle.alg_sums.specs.Coefficients.{Coefficients}
use Rattle.alg_sums.specs.Size.{IsScaled, IsWithin}
use Rattle.alg_sums.specs.Sum.{negated, scaled, products, insert_term, normal_of}
use Rattle.alg_sums.proofs.Sizes.{minus_scaled, plus_scaled, times_scaled}

product_below : (m n l v : ℕ) → n + l ≤ v → m * n + m * l ≤ m * v
product_below zero n l v h = omega arith
product_below (suc m) n l v h = omega (arith, product_below m n l v h)

below_product : (m l w v : ℕ) → m + l ≤ w → m * v + l * v ≤ w * v
below_product m l w zero h = omega arith
below_product m l w (suc v) h = omega (arith, below_product m l w v h)

module _ {C : Type 0} (r : Coefficients C) where
  pub scaled_more : (k d : ℕ) (c : C) (m : ℕ) → IsScaled r d c m → IsScaled r (k * d) c (k * m)
  scaled_more k d c m h = record {
    by = k * h.by;
    over = ap (λ x. k * x) h.over ∙ (let e : k * (h.by * r.bottom c) ≡ k * h.by * r.bottom c = omega arith in e);
    size = ap (λ x. k * x) h.size ∙ (let e : k * (h.by * r.top c) ≡ k * h.by * r.top c = omega arith in e);
  }

  module _ {K : Type 0} where
    pub within_more : (d : ℕ) (p : List (K × C)) (w v : ℕ) → w ≤ v → IsWithin r d p w → IsWithin r d p v
    within_more d [] w v l h = tt
    within_more d (t ∷ p) w v l h = (h.0, h.1, h.2, h.3, omega (arith, h.4))

    pub within-append : (d : ℕ) (p q : List (K × C)) (w v : ℕ) → IsWithin r d p w → IsWithin r d q v → IsWithin r d (p ++ q) (w + v)
    within-append d [] q w v h i = within_more d q v (w + v) (omega arith) i
    within-append d (t ∷ p) q w v h i = (h.0, h.1 + v, h.2, within-append d p q h.1 v h.3 i, omega (arith, h.4))

    pub within_times : (k d : ℕ) (p : List (K × C)) (w : ℕ) → IsWithin r d p w → IsWithin r (k * d) p (k * w)
    within_times k d [] w h = tt
    within_times k d (t ∷ p) w h = (k * h.0, k * h.1, scaled_more k d t.1 h.0 h.2, within_times k d p h.1 h.3, product_below k h.0 h.1 w h.4)

    pub within-negated : (d : ℕ) (p : List (K × C)) (w : ℕ) → IsWithin r d p w → IsWithin r d (negated r p) w
    within-negated d [] w h = tt
    within-negated d (t ∷ p) w h = (h.0, h.1, minus_scaled r d t.1 h.0 h.2, within-negated d p h.1 h.3, h.4)

    -- put in order
    first_within : (d : ℕ) (t : K × C) (us : List (K × C)) (m w : ℕ) (b : Bool) → IsScaled r d t.1 m → IsWithin r d us w → IsWithin r d (cond b us (t ∷ us)) (m + w)
    first_within d t us m w true h i = within_more d us w (m + w) (omega arith) i
    first_within d t us m w false h i = (m, w, h, i, omega arith)

    insert_within_step : (order : K → K → Ordering) (d : ℕ) (t u : K × C) (us : List (K × C)) (m w : ℕ) (o : Ordering) → IsScaled r d t.1 m → (i : IsWithin r d (u ∷ us) w) → IsWithin r d (insert_term r order t us) (m + i.1) → IsWithin r d (match_ordering o (cond (r.is_nil t.1) (u ∷ us) (t ∷ u ∷ us)) (cond (r.is_nil (r.plus t.1 u.1)) us ((u.0, r.plus t.1 u.1) ∷ us)) (u ∷ insert_term r order t us)) (m + w)
    insert_within_step order d t u us m w Less h i j = first_within d t (u ∷ us) m w (r.is_nil t.1) h i
    insert_within_step order d t u us m w Equal h i j =
        let s = plus_scaled r d t.1 u.1 m i.0 h i.2 in
        within_more d (cond (r.is_nil (r.plus t.1 u.1)) us ((u.0, r.plus t.1 u.1) ∷ us)) (s.0 + i.1) (m + w) (omega (arith, s.2, i.4)) (first_within d (u.0, r.plus t.1 u.1) us s.0 i.1 (r.is_nil (r.plus t.1 u.1)) s.1 i.3)
    insert_within_step order d t u us m w Greater h i j = (i.0, m + i.1, i.2, j, omega (arith, i.4))

    insert_within : (order : K → K → Ordering) (d : ℕ) (t : K × C) (us : List (K × C)) (m w : ℕ) → IsScaled r d t.1 m → IsWithin r d us w → IsWithin r d (insert_term r order t us) (m + w)
    insert_within order d t [] m w h i = first_within d t [] m w (r.is_nil t.1) h i
    insert_within order d t (u ∷ us) m w h i = insert_within_step order d t u us m w (order t.0 u.0) h i (insert_within order d t us m i.1 h i.3)

    pub within-normal_of : (order : K → K → Ordering) (d : ℕ) (p : List (K × C)) (w : ℕ) → IsWithin r d p w → IsWithin r d (normal_of r order p) w
    unfolding normal_of
    within-normal_of order d [] w h = tt
    within-normal_of order d (t ∷ p) w h = within_more d (insert_term r order t (normal_of r order p)) (h.0 + h.1) w h.4 (insert_within order d t (normal_of r order p) h.0 h.1 h.2 (within-normal_of order d p h.1 h.3))

  module _ {K : Type 0} (product : K → K → K) where
    -- ---- products
    pub within-scaled : (d e : ℕ) (t : K × C) (q : List (K × C)) (m v : ℕ) → IsScaled r d t.1 m → IsWithin r e q v → IsWithin r (d * e) (scaled r product t q) (m * v)
    within-scaled d e t [] m v h i = tt
    within-scaled d e t (u ∷ q) m v h i = (m * i.0, m * i.1, times_scaled r d e t.1 u.1 m i.0 h i.2, within-scaled d e t q m i.1 h i.3, product_below m i.0 i.1 v i.4)

    pub within-products : (d e : ℕ) (p q : List (K × C)) (w v : ℕ) → IsWithin r d p w → IsWithin r e q v → IsWithin r (d * e) (products r product p q) (w * v)
    within-products d e [] q w v h i = tt
    within-products d e (t ∷ p) q w v h i =
        within_more (d * e) (products r product (t ∷ p) q) (h.0 * v + h.1 * v) (w * v) (below_product h.0 h.1 w v h.4)
        (within-append (d * e) (scaled r product t q) (products r product p q) (h.0 * v) (h.1 * v) (within-scaled d e t q h.0 v h.2 i) (within-products d e p q h.1 v h.3 i))
