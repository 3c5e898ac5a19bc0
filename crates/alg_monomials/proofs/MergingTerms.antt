-- The steps of merging two sorted sums, term by term.
use Rattle.std.proofs.Common.{◌≡◌, ℕ, zero, suc, ◌+◌, ◌<◌, ◌≤◌, List, [], ◌∷◌, ◌++◌, length, get_or, take, drop, refl, ap, ap₂, sym, subst, ◌∙◌, arith, add-one, ◌⊎◌, inl, inr, Less}
use Rattle.std.proofs.Math.Seq.{drop-cons, take-suc}
use Rattle.std.proofs.lemmas.List.{get_or-take, length-take-le, take-append-drop, map-append}
use Rattle.std.proofs.lemmas.Bool.{cases_lt}
use Rattle.alg_num.specs.Fraction.{Fraction}
use Rattle.alg_sums.specs.Ratio.{Ratio}
use Rattle.alg_sums.specs.Rational.{rational}
use Rattle.alg_sums.specs.Sum.{IsNormal, normal_of, AllTerms}
use Rattle.alg_sums.specs.Merging.{IsAhead, IsMerged}
use Rattle.alg_sums.proofs.Merging.{take_left, take_right, take_both, take_none, start_left, start_right, merged_all}
use Rattle.alg_monomials.specs.declared.monomials.Monomial.{Monomial}
use Rattle.alg_monomials.specs.declared.terms.Term.{Term}
use Rattle.alg_monomials.specs.Monomials.{monomial_order}
use Rattle.alg_monomials.specs.Terms.{no_term, key_of, key_at, TakesLeft, TakesRight, TakesBoth, ComeBefore, meant, all_meant, AreMerged}
use Rattle.alg_monomials.proofs.Ordered.{monomial_order-IsStrict}

module _ (w : Fraction → Ratio) (table : List Monomial) where
  abbrev all : List Term → List (List (ℕ × ℕ) × Ratio)
  all ts = all_meant w table ts

  all-append : (ts us : List Term) → all (ts ++ us) ≡ all ts ++ all us
  all-append ts us = map-append (meant w table) ts us

  -- the term of a sum that comes next
  abbrev at : List Term → ℕ → List (ℕ × ℕ) × Ratio
  at ts i = meant w table (get_or ts i no_term)

  rest_is : (ts : List Term) (i : ℕ) → i < length ts → all (drop i ts) ≡ at ts i ∷ all (drop (i + 1) ts)
  rest_is ts i h = ap all (drop-cons ts i no_term h) ∙ ap (λ k. at ts i ∷ all (drop k ts)) (sym (add-one i))

  taken_is : (ts : List Term) (i : ℕ) → i < length ts → all (take (i + 1) ts) ≡ all (take i ts) ++ at ts i ∷ []
  taken_is ts i h = ap (λ k. all (take k ts)) (add-one i) ∙ ap all (take-suc ts i no_term h) ∙ all-append (take i ts) (get_or ts i no_term ∷ [])

  nothing_left : (ts : List Term) (i : ℕ) → length ts ≤ i → drop i ts ≡ []
  nothing_left [] zero h = refl
  nothing_left [] (suc i) h = refl
  nothing_left (t ∷ ts) zero h = absurd (omega (arith, h))
  nothing_left (t ∷ ts) (suc i) h = nothing_left ts i (omega (arith, h))

  all_taken : (ts : List Term) (i : ℕ) → length ts ≤ i → take i ts ≡ ts
  all_taken [] zero h = refl
  all_taken [] (suc i) h = refl
  all_taken (t ∷ ts) zero h = absurd (omega (arith, h))
  all_taken (t ∷ ts) (suc i) h = ap (λ r. t ∷ r) (all_taken ts i (omega (arith, h)))

  ahead_of : (k : List (ℕ × ℕ)) (ts : List Term) (j : ℕ) → (j < length ts → monomial_order k (key_at table ts j) ≡ Less) → (j < length ts) ⊎ (length ts ≤ j) → IsAhead monomial_order k (all (drop j ts))
  ahead_of k ts j f (inl l) = subst (IsAhead monomial_order k) (sym (rest_is ts j l)) (f l)
  ahead_of k ts j f (inr l) = subst (IsAhead monomial_order k) (sym (ap all (nothing_left ts j l))) tt

  -- a term that means the same
  same_meaning : (x t : Term) → x.monomial ≡ t.monomial → x.value ≡ t.value → meant w table x ≡ meant w table t
  same_meaning x t e f = λ i. (key_of table (record t { monomial = e i }), w (f i))

  module _ (p q done : List Term) (i j : ℕ) (h : AreMerged w table p q done i j) where
    pub merged_left : TakesLeft table p q i j → (x : Term) → x.monomial ≡ (get_or p i no_term).monomial → x.value ≡ (get_or p i no_term).value → AreMerged w table p q (done ++ x ∷ []) (i + 1) j
    merged_left t x e f =
        let u : List (ℕ × ℕ) × Ratio = at p i in
        let g : IsMerged rational monomial_order (all (take i p)) (u ∷ all (drop (i + 1) p)) (all (take j q)) (all (drop j q)) (all done) = subst (λ r. IsMerged rational monomial_order (all (take i p)) r (all (take j q)) (all (drop j q)) (all done)) (rest_is p i t.more) h in
        let d : all (done ++ x ∷ []) ≡ all done ++ u ∷ [] = all-append done (x ∷ []) ∙ ap (λ y. all done ++ y ∷ []) (same_meaning x (get_or p i no_term) e f) in
        let s = take_left rational monomial_order-IsStrict (all (take i p)) (all (drop (i + 1) p)) (all (take j q)) (all (drop j q)) (all done) u g (ahead_of (key_at table p i) q j t.before (cases_lt j (length q))) in
        subst (λ r. IsMerged rational monomial_order r (all (drop (i + 1) p)) (all (take j q)) (all (drop j q)) (all (done ++ x ∷ []))) (sym (taken_is p i t.more))
        (subst (λ r. IsMerged rational monomial_order (all (take i p) ++ u ∷ []) (all (drop (i + 1) p)) (all (take j q)) (all (drop j q)) r) (sym d) s)

    pub merged_right : TakesRight table p q i j → (x : Term) → x.monomial ≡ (get_or q j no_term).monomial → x.value ≡ (get_or q j no_term).value → AreMerged w table p q (done ++ x ∷ []) i (j + 1)
    merged_right t x e f =
        let u : List (ℕ × ℕ) × Ratio = at q j in
        let g : IsMerged rational monomial_order (all (take i p)) (all (drop i p)) (all (take j q)) (u ∷ all (drop (j + 1) q)) (all done) = subst (λ r. IsMerged rational monomial_order (all (take i p)) (all (drop i p)) (all (take j q)) r (all done)) (rest_is q j t.more) h in
        let d : all (done ++ x ∷ []) ≡ all done ++ u ∷ [] = all-append done (x ∷ []) ∙ ap (λ y. all done ++ y ∷ []) (same_meaning x (get_or q j no_term) e f) in
        let s = take_right rational monomial_order-IsStrict (all (take i p)) (all (drop i p)) (all (take j q)) (all (drop (j + 1) q)) (all done) u g (ahead_of (key_at table q j) p i t.before (cases_lt i (length p))) in
        subst (λ r. IsMerged rational monomial_order (all (take i p)) (all (drop i p)) r (all (drop (j + 1) q)) (all (done ++ x ∷ []))) (sym (taken_is q j t.more))
        (subst (λ r. IsMerged rational monomial_order (all (take i p)) (all (drop i p)) (all (take j q) ++ u ∷ []) (all (drop (j + 1) q)) r) (sym d) s)

    module _ (t : TakesBoth table p q i j) where
      abbrev left_value : Ratio
      left_value = w (get_or p i no_term).value

      abbrev right_value : Ratio
      right_value = w (get_or q j no_term).value

      abbrev key : List (ℕ × ℕ)
      key = key_at table p i

      right_is : at q j ≡ (key, right_value)
      right_is = ap (λ k. (k, right_value)) (sym t.same)

      -- both lists begin with the key
      both_begin : IsMerged rational monomial_order (all (take i p)) ((key, left_value) ∷ all (drop (i + 1) p)) (all (take j q)) ((key, right_value) ∷ all (drop (j + 1) q)) (all done)
      both_begin =
          subst (λ r. IsMerged rational monomial_order (all (take i p)) ((key, left_value) ∷ all (drop (i + 1) p)) (all (take j q)) r (all done)) (rest_is q j t.right_more ∙ ap (λ u. u ∷ all (drop (j + 1) q)) right_is)
          (subst (λ r. IsMerged rational monomial_order (all (take i p)) r (all (take j q)) (all (drop j q)) (all done)) (rest_is p i t.left_more) h)

      both_taken : (ds : List (List (ℕ × ℕ) × Ratio)) → IsMerged rational monomial_order (all (take i p) ++ (key, left_value) ∷ []) (all (drop (i + 1) p)) (all (take j q) ++ (key, right_value) ∷ []) (all (drop (j + 1) q)) ds → IsMerged rational monomial_order (all (take (i + 1) p)) (all (drop (i + 1) p)) (all (take (j + 1) q)) (all (drop (j + 1) q)) ds
      both_taken ds g =
          subst (λ r. IsMerged rational monomial_order (all (take (i + 1) p)) (all (drop (i + 1) p)) r (all (drop (j + 1) q)) ds) (sym (taken_is q j t.right_more ∙ ap (λ u. all (take j q) ++ u ∷ []) right_is))
          (subst (λ r. IsMerged rational monomial_order r (all (drop (i + 1) p)) (all (take j q) ++ (key, right_value) ∷ []) (all (drop (j + 1) q)) ds) (sym (taken_is p i t.left_more)) g)

      pub merged_both : (x : Term) → x.monomial ≡ (get_or p i no_term).monomial → w x.value ≡ rational.plus left_value right_value → (w x.value ≡ rational.nil → ⊥) → AreMerged w table p q (done ++ x ∷ []) (i + 1) (j + 1)
      merged_both x e f n =
          let d : all (done ++ x ∷ []) ≡ all done ++ (key, rational.plus left_value right_value) ∷ [] = all-append done (x ∷ []) ∙ ap₂ (λ k v. all done ++ (k, v) ∷ []) (ap (λ m. key_of table (record x { monomial = m })) e) f in
          subst (λ r. IsMerged rational monomial_order (all (take (i + 1) p)) (all (drop (i + 1) p)) (all (take (j + 1) q)) (all (drop (j + 1) q)) r) (sym d)
          (both_taken (all done ++ (key, rational.plus left_value right_value) ∷ []) (take_both rational monomial_order-IsStrict (all (take i p)) (all (drop (i + 1) p)) (all (take j q)) (all (drop (j + 1) q)) (all done) key left_value right_value both_begin (λ z. n (f ∙ z))))

      pub merged_none : rational.plus left_value right_value ≡ rational.nil → AreMerged w table p q done (i + 1) (j + 1)
      merged_none e = both_taken (all done) (take_none rational monomial_order-IsStrict (all (take i p)) (all (drop (i + 1) p)) (all (take j q)) (all (drop (j + 1) q)) (all done) key left_value right_value both_begin e)

  -- the beginning

  each_ahead : (us : List (List (ℕ × ℕ) × Ratio)) (ts : List Term) → ((m : ℕ) → m < length ts → IsAhead monomial_order (key_at table ts m) us) → AllTerms (λ (t : List (ℕ × ℕ) × Ratio). IsAhead monomial_order t.0 us) (all ts)
  each_ahead us [] h = tt
  each_ahead us (t ∷ ts) h = (h 0 (omega arith), each_ahead us ts (λ m l. h (suc m) (omega (arith, l))))

  ahead_first : (k : List (ℕ × ℕ)) (q : List Term) → (0 < length q → monomial_order k (key_at table q 0) ≡ Less) → IsAhead monomial_order k (all q)
  ahead_first k [] f = tt
  ahead_first k (t ∷ q) f = f (omega arith)

  first_ahead : (p q : List Term) (i : ℕ) → i ≤ length p → ComeBefore table p q i → AllTerms (λ (t : List (ℕ × ℕ) × Ratio). IsAhead monomial_order t.0 (all q)) (all (take i p))
  first_ahead p q i l h = each_ahead (all q) (take i p) (λ m n. let k : m < i = omega (arith, n, length-take-le i p l) in subst (λ (t : Term). IsAhead monomial_order (key_of table t) (all q)) (sym (get_or-take i p m no_term k)) (ahead_first (key_at table p m) q (λ o. h.before o m k)))

  whole : (p : List Term) (i : ℕ) → IsNormal rational monomial_order (all p) → IsNormal rational monomial_order (all (take i p) ++ all (drop i p))
  whole p i n = subst (IsNormal rational monomial_order) (ap all (sym (take-append-drop i p)) ∙ all-append (take i p) (drop i p)) n

  pub merged_first_left : (p q : List Term) (i : ℕ) → i ≤ length p → IsNormal rational monomial_order (all p) → IsNormal rational monomial_order (all q) → ComeBefore table p q i → AreMerged w table p q (take i p) i 0
  merged_first_left p q i l n m h = start_left rational monomial_order-IsStrict (all (take i p)) (all (drop i p)) (all q) (whole p i n) m (first_ahead p q i l h)

  pub merged_first_right : (p q : List Term) (j : ℕ) → j ≤ length q → IsNormal rational monomial_order (all p) → IsNormal rational monomial_order (all q) → ComeBefore table q p j → AreMerged w table p q (take j q) 0 j
  merged_first_right p q j l n m h = start_right rational monomial_order-IsStrict (all p) (all (take j q)) (all (drop j q)) n (whole q j m) (first_ahead q p j l h)

  -- the end

  pub merged_terms : (p q done : List Term) (i j : ℕ) → length p ≤ i → length q ≤ j → AreMerged w table p q done i j → all done ≡ normal_of rational monomial_order (all p ++ all q)
  merged_terms p q done i j l m h =
      let f : IsMerged rational monomial_order (all p) (all (drop i p)) (all (take j q)) (all (drop j q)) (all done) = subst (λ r. IsMerged rational monomial_order (all r) (all (drop i p)) (all (take j q)) (all (drop j q)) (all done)) (all_taken p i l) h in
      let g : IsMerged rational monomial_order (all p) (all (drop i p)) (all q) (all (drop j q)) (all done) = subst (λ r. IsMerged rational monomial_order (all p) (all (drop i p)) (all r) (all (drop j q)) (all done)) (all_taken q j m) f in
      let d : IsMerged rational monomial_order (all p) [] (all q) (all (drop j q)) (all done) = subst (λ r. IsMerged rational monomial_order (all p) (all r) (all q) (all (drop j q)) (all done)) (nothing_left p i l) g in
      merged_all rational monomial_order-IsStrict (all p) (all q) (all done) (subst (λ r. IsMerged rational monomial_order (all p) [] (all q) (all r) (all done)) (nothing_left q j m) d)
