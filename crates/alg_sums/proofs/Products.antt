-- Maps of sums, negations and products. The map of a product is that of the maps of its factors.
use Rattle.std.proofs.Common.{◌≡◌, ℕ, zero, suc, ◌+◌, ◌≤◌, List, [], ◌∷◌, ◌++◌, length, Bool, true, false, cond, arith, refl, ap, ap₂, sym, ◌∙◌}
use Rattle.std.specs.Cmp.{IsEquivalence}
use Rattle.alg_sums.specs.Coefficients.{Coefficients}
use Rattle.alg_sums.specs.Sum.{total_at, IsSameMap, negated, scaled, products}
use Rattle.alg_sums.proofs.RingLaws.{nil_plus, plus_left, plus_times, times_nil, nil_times, minus_plus, minus_nil}

drop_step : {T : Type 0} (b : Bool) (rest : List T) (t : T) (ts : List T) → length rest ≤ length ts → length (cond b rest (t ∷ rest)) ≤ suc (length ts)
drop_step true rest t ts h = omega arith
drop_step false rest t ts h = omega arith

-- the product goes through the sameness of keys
pub record IsCongruent {K : Type 0} (same : K → K → Bool) (product : K → K → K) : Type 0 where
  pub left : (x y z : K) → same x y ≡ true → same (product x z) (product y z) ≡ true
  pub right : (x y z : K) → same x y ≡ true → same (product z x) (product z y) ≡ true

module _ {C : Type 0} (r : Coefficients C) {K : Type 0} (same : K → K → Bool) where
  pub total_at-append : (k : K) (p q : List (K × C)) → total_at r same k (p ++ q) ≡ r.plus (total_at r same k p) (total_at r same k q)
  total_at-append k [] q = sym (nil_plus r (total_at r same k q))
  total_at-append k (t ∷ p) q = ap (r.plus (cond (same t.0 k) t.1 r.nil)) (total_at-append k p q) ∙ sym (r.plus_assoc (cond (same t.0 k) t.1 r.nil) (total_at r same k p) (total_at r same k q))

  minus_cond : (b : Bool) (z : C) → cond b (r.minus z) r.nil ≡ r.minus (cond b z r.nil)
  minus_cond true z = refl
  minus_cond false z = minus_nil r

  pub total_at-negated : (k : K) (p : List (K × C)) → total_at r same k (negated r p) ≡ r.minus (total_at r same k p)
  total_at-negated k [] = minus_nil r
  total_at-negated k (t ∷ p) = ap₂ r.plus (minus_cond (same t.0 k) t.1) (total_at-negated k p) ∙ minus_plus r (cond (same t.0 k) t.1 r.nil) (total_at r same k p)

  -- a sum over the terms, each coefficient times a value of its key
  abbrev pub weighed : (K → C) → List (K × C) → C
  weighed f [] = r.nil
  weighed f (t ∷ ts) = r.plus (r.times t.1 (f t.0)) (weighed f ts)

  -- the terms whose keys are not that of k
  abbrev pub others : K → List (K × C) → List (K × C)
  others k [] = []
  others k (t ∷ ts) = cond (same t.0 k) (others k ts) (t ∷ others k ts)

  -- f does not tell two keys apart that are the same
  abbrev pub Respects : (K → C) → Type 0
  Respects f = (x y : K) → same x y ≡ true → f x ≡ f y

  split_step : (f : K → C) → Respects f → (k : K) (t : K × C) (ts : List (K × C)) (b : Bool) → same t.0 k ≡ b → weighed f ts ≡ r.plus (r.times (total_at r same k ts) (f k)) (weighed f (others k ts)) → r.plus (r.times t.1 (f t.0)) (weighed f ts) ≡ r.plus (r.times (r.plus (cond b t.1 r.nil) (total_at r same k ts)) (f k)) (weighed f (cond b (others k ts) (t ∷ others k ts)))
  split_step f g k t ts true e ih =
      ap₂ r.plus (ap (r.times t.1) (g t.0 k e)) ih
      ∙ sym (r.plus_assoc (r.times t.1 (f k)) (r.times (total_at r same k ts) (f k)) (weighed f (others k ts)))
      ∙ ap (λ x. r.plus x (weighed f (others k ts))) (sym (plus_times r t.1 (total_at r same k ts) (f k)))
  split_step f g k t ts false e ih =
      ap (r.plus (r.times t.1 (f t.0))) ih
      ∙ plus_left r (r.times t.1 (f t.0)) (r.times (total_at r same k ts) (f k)) (weighed f (others k ts))
      ∙ ap (λ x. r.plus (r.times x (f k)) (r.plus (r.times t.1 (f t.0)) (weighed f (others k ts)))) (sym (nil_plus r (total_at r same k ts)))

  -- the sum is that of one key and that of the others
  weighed-split : (f : K → C) → Respects f → (k : K) (ts : List (K × C)) → weighed f ts ≡ r.plus (r.times (total_at r same k ts) (f k)) (weighed f (others k ts))
  weighed-split f g k [] = sym (ap (λ x. r.plus x r.nil) (nil_times r (f k)) ∙ r.plus_nil r.nil)
  weighed-split f g k (t ∷ ts) = split_step f g k t ts (same t.0 k) refl (weighed-split f g k ts)

  length-others : (k : K) (ts : List (K × C)) → length (others k ts) ≤ length ts
  length-others k [] = omega arith
  length-others k (t ∷ ts) = drop_step (same t.0 k) (others k ts) t ts (length-others k ts)

  module _ (e : IsEquivalence same) where
    others_step : (k j : K) (t : K × C) (ts : List (K × C)) (b c : Bool) → same t.0 k ≡ b → same k j ≡ c → total_at r same j (others k ts) ≡ cond c r.nil (total_at r same j ts) → total_at r same j (cond b (others k ts) (t ∷ others k ts)) ≡ cond c r.nil (r.plus (cond (same t.0 j) t.1 r.nil) (total_at r same j ts))
    others_step k j t ts true true h i ih = ih
    others_step k j t ts true false h i ih = ih ∙ sym (ap (λ b. r.plus (cond b t.1 r.nil) (total_at r same j ts)) (e.congr t.0 k j h ∙ i) ∙ nil_plus r (total_at r same j ts))
    others_step k j t ts false true h i ih = ap₂ (λ b x. r.plus (cond b t.1 r.nil) x) (e.symm t.0 j ∙ sym (e.congr k j t.0 i) ∙ e.symm k t.0 ∙ h) ih ∙ r.plus_nil r.nil
    others_step k j t ts false false h i ih = ap (r.plus (cond (same t.0 j) t.1 r.nil)) ih

    both_nil : (b : Bool) → r.nil ≡ cond b r.nil r.nil
    both_nil true = refl
    both_nil false = refl

    -- without one key the totals at the others stay
    total_at-others : (k j : K) (ts : List (K × C)) → total_at r same j (others k ts) ≡ cond (same k j) r.nil (total_at r same j ts)
    total_at-others k j [] = both_nil (same k j)
    total_at-others k j (t ∷ ts) = others_step k j t ts (same t.0 k) (same k j) refl refl (total_at-others k j ts)

    IsSameMap-others : (k : K) (p q : List (K × C)) → IsSameMap r same p q → IsSameMap r same (others k p) (others k q)
    IsSameMap-others k p q h j = total_at-others k j p ∙ ap (cond (same k j) r.nil) (h j) ∙ sym (total_at-others k j q)

    others_less : (t : K × C) (ts : List (K × C)) → length (others t.0 (t ∷ ts)) ≤ length ts
    others_less t ts = rw (e.refl t.0) (length-others t.0 ts)

    linear_by : (f : K → C) → Respects f → (k : K) (p q : List (K × C)) → IsSameMap r same p q → weighed f (others k p) ≡ weighed f (others k q) → weighed f p ≡ weighed f q
    linear_by f g k p q h i = weighed-split f g k p ∙ ap₂ (λ x y. r.plus (r.times x (f k)) y) (h k) i ∙ sym (weighed-split f g k q)

    linear_upto : (f : K → C) → Respects f → (n : ℕ) (p q : List (K × C)) → length p + length q ≤ n → IsSameMap r same p q → weighed f p ≡ weighed f q
    linear_upto f g n [] [] b h = refl
    linear_upto f g zero (t ∷ p) q b h = absurd (omega arith)
    linear_upto f g zero [] (t ∷ q) b h = absurd (omega arith)
    linear_upto f g (suc n) (t ∷ p) q b h = linear_by f g t.0 (t ∷ p) q h (linear_upto f g n (others t.0 (t ∷ p)) (others t.0 q) (omega (arith, others_less t p, length-others t.0 q)) (IsSameMap-others t.0 (t ∷ p) q h))
    linear_upto f g (suc n) [] (t ∷ q) b h = linear_by f g t.0 [] (t ∷ q) h (linear_upto f g n (others t.0 []) (others t.0 (t ∷ q)) (omega (arith, others_less t q)) (IsSameMap-others t.0 [] (t ∷ q) h))

    -- a sum over the terms is that of the map
    pub weighed-same : (f : K → C) → Respects f → (p q : List (K × C)) → IsSameMap r same p q → weighed f p ≡ weighed f q
    weighed-same f g p q h = linear_upto f g (length p + length q) p q (omega arith) h

    abbrev unit : Bool → C
    unit b = cond b r.one r.nil

    times_step : (a s w : C) (b : Bool) → r.plus (cond b (r.times a s) r.nil) (r.times a w) ≡ r.times a (r.plus (r.times s (unit b)) w)
    times_step a s w true = ap (λ x. r.plus (r.times a x) (r.times a w)) (sym (r.times_one s)) ∙ sym (r.times_plus a (r.times s r.one) w)
    times_step a s w false = nil_plus r (r.times a w) ∙ sym (ap (r.times a) (ap (λ x. r.plus x w) (times_nil r s) ∙ nil_plus r w))

    module _ (product : K → K → K) where
      total_at-scaled : (m : K) (t : K × C) (q : List (K × C)) → total_at r same m (scaled r product t q) ≡ r.times t.1 (weighed (λ s. unit (same (product t.0 s) m)) q)
      total_at-scaled m t [] = sym (times_nil r t.1)
      total_at-scaled m t (s ∷ q) =
          ap (r.plus (cond (same (product t.0 s.0) m) (r.times t.1 s.1) r.nil)) (total_at-scaled m t q)
          ∙ times_step t.1 s.1 (weighed (λ s. unit (same (product t.0 s) m)) q) (same (product t.0 s.0) m)

      -- the total of a product, as a sum over both
      total_at-products : (m : K) (p q : List (K × C)) → total_at r same m (products r product p q) ≡ weighed (λ k. weighed (λ s. unit (same (product k s) m)) q) p
      total_at-products m [] q = refl
      total_at-products m (t ∷ p) q = total_at-append m (scaled r product t q) (products r product p q) ∙ ap₂ r.plus (total_at-scaled m t q) (total_at-products m p q)

      weighed-ext : (f g : K → C) → ((k : K) → f k ≡ g k) → (p : List (K × C)) → weighed f p ≡ weighed g p
      weighed-ext f g h [] = refl
      weighed-ext f g h (t ∷ p) = ap₂ (λ x y. r.plus (r.times t.1 x) y) (h t.0) (weighed-ext f g h p)

      module _ (c : IsCongruent same product) where
        inner : (m k : K) → Respects (λ s. unit (same (product k s) m))
        inner m k x y h = ap unit (e.congr (product k x) (product k y) m (c.right x y k h))

        outer : (m : K) (q : List (K × C)) → Respects (λ k. weighed (λ s. unit (same (product k s) m)) q)
        outer m q x y h = weighed-ext (λ s. unit (same (product x s) m)) (λ s. unit (same (product y s) m)) (λ s. ap unit (e.congr (product x s) (product y s) m (c.left x y s h))) q

        -- the map of a product is that of the maps of its factors
        pub products-same : (p p' q q' : List (K × C)) → IsSameMap r same p p' → IsSameMap r same q q' → IsSameMap r same (products r product p q) (products r product p' q')
        products-same p p' q q' h i m =
            total_at-products m p q
            ∙ weighed-same (λ k. weighed (λ s. unit (same (product k s) m)) q) (outer m q) p p' h
            ∙ weighed-ext (λ k. weighed (λ s. unit (same (product k s) m)) q) (λ k. weighed (λ s. unit (same (product k s) m)) q') (λ k. weighed-same (λ s. unit (same (product k s) m)) (inner m k) q q' i) p'
            ∙ sym (total_at-products m p' q')
