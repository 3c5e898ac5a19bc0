-- Normal lists of terms: each map has exactly one.
use Rattle.std.proofs.Common.{◌≡◌, List, [], ◌∷◌, Bool, true, false, cond, refl, ap, ap₂, sym, subst, ◌∙◌, Ordering, Less, Equal, Greater}
use Rattle.std.specs.Cmp.{tied_itself}
use Rattle.std.specs.Ordering.{eq_by_cmp, is_eq, match_ordering, ordering_reverse}
use Rattle.alg_sums.specs.Coefficients.{Coefficients}
use Rattle.alg_sums.specs.Sum.{total_at, IsSameMap, IsBefore, IsNormal, insert_term, normal_of, IsStrict}

module _ {C : Type 0} (r : Coefficients C) where
  nil_plus : (a : C) → r.plus r.nil a ≡ a
  nil_plus a = r.plus_comm r.nil a ∙ r.plus_nil a

  plus_left : (a b c : C) → r.plus a (r.plus b c) ≡ r.plus b (r.plus a c)
  plus_left a b c = sym (r.plus_assoc a b c) ∙ ap (λ x. r.plus x c) (r.plus_comm a b) ∙ r.plus_assoc b a c

  undo : (a b : C) → r.plus (r.minus a) (r.plus a b) ≡ b
  undo a b = sym (r.plus_assoc (r.minus a) a b) ∙ ap (λ x. r.plus x b) (r.plus_comm (r.minus a) a ∙ r.plus_minus a) ∙ nil_plus b

  pub cancel_left : (a b c : C) → r.plus a b ≡ r.plus a c → b ≡ c
  cancel_left a b c h = sym (undo a b) ∙ ap (r.plus (r.minus a)) h ∙ undo a c

  pub not_nil : (z : C) → r.is_nil z ≡ false → z ≡ r.nil → ⊥
  not_nil z h e = let f : false ≡ true = sym h ∙ ap r.is_nil e ∙ r.is_nil-nil in cc

  pub is_not_nil : (z : C) (b : Bool) → r.is_nil z ≡ b → (z ≡ r.nil → ⊥) → b ≡ false
  is_not_nil z true h n = absurd (n (r.nil_is z h))
  is_not_nil z false h n = refl

  module _ {K : Type 0} {order : K → K → Ordering} (s : IsStrict order) where
    pub turned : (a b : K) → order a b ≡ Greater → order b a ≡ Less
    turned a b h = s.total.antisymm b a ∙ ap ordering_reverse h

    not_after : (k j : K) → order k j ≡ Less → eq_by_cmp order j k ≡ false
    not_after k j h = rw (s.total.antisymm j k, h) refl

    -- a key before all terms has the total nil
    pub total_at-before : (k : K) (ts : List (K × C)) → IsBefore order k ts → total_at r (eq_by_cmp order) k ts ≡ r.nil
    total_at-before k [] h = refl
    total_at-before k (t ∷ ts) h = ap₂ (λ b x. r.plus (cond b t.1 r.nil) x) (not_after k t.0 h.0) (total_at-before k ts h.1) ∙ r.plus_nil r.nil

    pub before_all : (j k : K) (ts : List (K × C)) → order j k ≡ Less → IsBefore order k ts → IsBefore order j ts
    before_all j k [] h b = tt
    before_all j k (t ∷ ts) h b = (s.total.trans j k t.0 h b.0, before_all j k ts h b.1)

    pub first_total : (t : K × C) (ts : List (K × C)) → IsBefore order t.0 ts → total_at r (eq_by_cmp order) t.0 (t ∷ ts) ≡ t.1
    first_total t ts b = ap₂ (λ b x. r.plus (cond b t.1 r.nil) x) (ap is_eq (tied_itself s.total t.0)) (total_at-before t.0 ts b) ∙ r.plus_nil t.1

    pub same_items : (t u : K × C) (p q : List (K × C)) → t.0 ≡ u.0 → t.1 ≡ u.1 → p ≡ q → t ∷ p ≡ u ∷ q
    same_items t u p q h i j = let e : t ≡ u = rw (h, i) refl in cc

    rest_step : (t u : K × C) (p q : List (K × C)) → t.0 ≡ u.0 → t.1 ≡ u.1 → IsSameMap r (eq_by_cmp order) (t ∷ p) (u ∷ q) → IsSameMap r (eq_by_cmp order) p q
    rest_step t u p q h i m j =
        let same = eq_by_cmp order in
        let c : cond (same t.0 j) t.1 r.nil ≡ cond (same u.0 j) u.1 r.nil = ap₂ (λ x y. cond (same x j) y r.nil) h i in
        cancel_left (cond (same t.0 j) t.1 r.nil) (total_at r same j p) (total_at r same j q) (m j ∙ ap (λ x. r.plus x (total_at r same j q)) (sym c))

    head_cases : (t u : K × C) (p q : List (K × C)) → IsNormal r order (t ∷ p) → IsNormal r order (u ∷ q) → IsSameMap r (eq_by_cmp order) (t ∷ p) (u ∷ q) → (IsSameMap r (eq_by_cmp order) p q → p ≡ q) → (o : Ordering) → order t.0 u.0 ≡ o → t ∷ p ≡ u ∷ q
    head_cases t u p q a b m ih Less h = absurd (a.1 (sym (first_total t p a.0) ∙ m t.0 ∙ total_at-before t.0 (u ∷ q) (h, before_all t.0 u.0 q h b.0)))
    head_cases t u p q a b m ih Greater h =
        let g = turned t.0 u.0 h in
        absurd (b.1 (sym (first_total u q b.0) ∙ sym (m u.0) ∙ total_at-before u.0 (t ∷ p) (g, before_all u.0 t.0 p g a.0)))
    head_cases t u p q a b m ih Equal h =
        let k : t.0 ≡ u.0 = s.ties t.0 u.0 h in
        let c : t.1 ≡ u.1 = sym (first_total t p a.0) ∙ m t.0 ∙ ap (λ x. total_at r (eq_by_cmp order) x (u ∷ q)) k ∙ first_total u q b.0 in
        same_items t u p q k c (ih (rest_step t u p q k c m))

    -- two normal lists of one map are one list
    pub normal_unique : (p q : List (K × C)) → IsNormal r order p → IsNormal r order q → IsSameMap r (eq_by_cmp order) p q → p ≡ q
    normal_unique [] [] a b m = refl
    normal_unique [] (u ∷ q) a b m = absurd (b.1 (sym (first_total u q b.0) ∙ sym (m u.0)))
    normal_unique (t ∷ p) [] a b m = absurd (a.1 (sym (first_total t p a.0) ∙ m t.0))
    normal_unique (t ∷ p) (u ∷ q) a b m = head_cases t u p q a b m (λ i. normal_unique p q a.2 b.2 i) (order t.0 u.0) refl

    -- ---- the map of a list put in order
    nil_adds : (b : Bool) (z x : C) → z ≡ r.nil → x ≡ r.plus (cond b z r.nil) x
    nil_adds true z x e = sym (ap (λ y. r.plus y x) e ∙ nil_plus x)
    nil_adds false z x e = sym (nil_plus x)

    first_map : (k : K) (t : K × C) (us : List (K × C)) (b : Bool) → r.is_nil t.1 ≡ b → total_at r (eq_by_cmp order) k (cond b us (t ∷ us)) ≡ r.plus (cond (eq_by_cmp order t.0 k) t.1 r.nil) (total_at r (eq_by_cmp order) k us)
    first_map k t us true e = nil_adds (eq_by_cmp order t.0 k) t.1 (total_at r (eq_by_cmp order) k us) (r.nil_is t.1 e)
    first_map k t us false e = refl

    cancels : (b : Bool) (a c x : C) → r.plus a c ≡ r.nil → x ≡ r.plus (cond b a r.nil) (r.plus (cond b c r.nil) x)
    cancels true a c x e = sym (sym (r.plus_assoc a c x) ∙ ap (λ y. r.plus y x) e ∙ nil_plus x)
    cancels false a c x e = sym (nil_plus (r.plus r.nil x) ∙ nil_plus x)

    joins : (b : Bool) (a c x : C) → r.plus (cond b (r.plus a c) r.nil) x ≡ r.plus (cond b a r.nil) (r.plus (cond b c r.nil) x)
    joins true a c x = r.plus_assoc a c x
    joins false a c x = sym (nil_plus (r.plus r.nil x))

    equal_map : (k : K) (t u : K × C) (us : List (K × C)) (b : Bool) → r.is_nil (r.plus t.1 u.1) ≡ b → eq_by_cmp order t.0 k ≡ eq_by_cmp order u.0 k → total_at r (eq_by_cmp order) k (cond b us ((u.0, r.plus t.1 u.1) ∷ us)) ≡ r.plus (cond (eq_by_cmp order t.0 k) t.1 r.nil) (r.plus (cond (eq_by_cmp order u.0 k) u.1 r.nil) (total_at r (eq_by_cmp order) k us))
    equal_map k t u us true e h = subst (λ b. total_at r (eq_by_cmp order) k us ≡ r.plus (cond b t.1 r.nil) (r.plus (cond (eq_by_cmp order u.0 k) u.1 r.nil) (total_at r (eq_by_cmp order) k us))) (sym h) (cancels (eq_by_cmp order u.0 k) t.1 u.1 (total_at r (eq_by_cmp order) k us) (r.nil_is (r.plus t.1 u.1) e))
    equal_map k t u us false e h = subst (λ b. total_at r (eq_by_cmp order) k ((u.0, r.plus t.1 u.1) ∷ us) ≡ r.plus (cond b t.1 r.nil) (r.plus (cond (eq_by_cmp order u.0 k) u.1 r.nil) (total_at r (eq_by_cmp order) k us))) (sym h) (joins (eq_by_cmp order u.0 k) t.1 u.1 (total_at r (eq_by_cmp order) k us))

    insert_step : (k : K) (t u : K × C) (us : List (K × C)) (o : Ordering) → order t.0 u.0 ≡ o → total_at r (eq_by_cmp order) k (insert_term r order t us) ≡ r.plus (cond (eq_by_cmp order t.0 k) t.1 r.nil) (total_at r (eq_by_cmp order) k us) → total_at r (eq_by_cmp order) k (match_ordering o (cond (r.is_nil t.1) (u ∷ us) (t ∷ u ∷ us)) (cond (r.is_nil (r.plus t.1 u.1)) us ((u.0, r.plus t.1 u.1) ∷ us)) (u ∷ insert_term r order t us)) ≡ r.plus (cond (eq_by_cmp order t.0 k) t.1 r.nil) (total_at r (eq_by_cmp order) k (u ∷ us))
    insert_step k t u us Less h ih = first_map k t (u ∷ us) (r.is_nil t.1) refl
    insert_step k t u us Equal h ih = equal_map k t u us (r.is_nil (r.plus t.1 u.1)) refl (ap is_eq (s.total.congr t.0 u.0 k h))
    insert_step k t u us Greater h ih = ap (r.plus (cond (eq_by_cmp order u.0 k) u.1 r.nil)) ih ∙ plus_left (cond (eq_by_cmp order u.0 k) u.1 r.nil) (cond (eq_by_cmp order t.0 k) t.1 r.nil) (total_at r (eq_by_cmp order) k us)

    total_at-insert : (k : K) (t : K × C) (us : List (K × C)) → total_at r (eq_by_cmp order) k (insert_term r order t us) ≡ r.plus (cond (eq_by_cmp order t.0 k) t.1 r.nil) (total_at r (eq_by_cmp order) k us)
    total_at-insert k t [] = first_map k t [] (r.is_nil t.1) refl
    total_at-insert k t (u ∷ us) = insert_step k t u us (order t.0 u.0) refl (total_at-insert k t us)

    pub normal_of-map : (p : List (K × C)) → IsSameMap r (eq_by_cmp order) (normal_of r order p) p
    unfolding normal_of
    normal_of-map [] k = refl
    normal_of-map (t ∷ p) k = total_at-insert k t (normal_of r order p) ∙ ap (r.plus (cond (eq_by_cmp order t.0 k) t.1 r.nil)) (normal_of-map p k)

    -- ---- its order
    first_before : (j : K) (t : K × C) (us : List (K × C)) (b : Bool) → order j t.0 ≡ Less → IsBefore order j us → IsBefore order j (cond b us (t ∷ us))
    first_before j t us true h i = i
    first_before j t us false h i = (h, i)

    insert_before_step : (j : K) (t u : K × C) (us : List (K × C)) (o : Ordering) → order j t.0 ≡ Less → IsBefore order j (u ∷ us) → IsBefore order j (insert_term r order t us) → IsBefore order j (match_ordering o (cond (r.is_nil t.1) (u ∷ us) (t ∷ u ∷ us)) (cond (r.is_nil (r.plus t.1 u.1)) us ((u.0, r.plus t.1 u.1) ∷ us)) (u ∷ insert_term r order t us))
    insert_before_step j t u us Less h i ih = first_before j t (u ∷ us) (r.is_nil t.1) h i
    insert_before_step j t u us Equal h i ih = first_before j (u.0, r.plus t.1 u.1) us (r.is_nil (r.plus t.1 u.1)) i.0 i.1
    insert_before_step j t u us Greater h i ih = (i.0, ih)

    insert_before : (j : K) (t : K × C) (us : List (K × C)) → order j t.0 ≡ Less → IsBefore order j us → IsBefore order j (insert_term r order t us)
    insert_before j t [] h i = first_before j t [] (r.is_nil t.1) h i
    insert_before j t (u ∷ us) h i = insert_before_step j t u us (order t.0 u.0) h i (insert_before j t us h i.1)

    first_normal : (t : K × C) (us : List (K × C)) (b : Bool) → r.is_nil t.1 ≡ b → IsBefore order t.0 us → IsNormal r order us → IsNormal r order (cond b us (t ∷ us))
    first_normal t us true e h n = n
    first_normal t us false e h n = (h, not_nil t.1 e, n)

    insert_normal_step : (t u : K × C) (us : List (K × C)) (o : Ordering) → order t.0 u.0 ≡ o → IsNormal r order (u ∷ us) → IsNormal r order (insert_term r order t us) → IsNormal r order (match_ordering o (cond (r.is_nil t.1) (u ∷ us) (t ∷ u ∷ us)) (cond (r.is_nil (r.plus t.1 u.1)) us ((u.0, r.plus t.1 u.1) ∷ us)) (u ∷ insert_term r order t us))
    insert_normal_step t u us Less h n ih = first_normal t (u ∷ us) (r.is_nil t.1) refl (h, before_all t.0 u.0 us h n.0) n
    insert_normal_step t u us Equal h n ih = first_normal (u.0, r.plus t.1 u.1) us (r.is_nil (r.plus t.1 u.1)) refl n.0 n.2
    insert_normal_step t u us Greater h n ih = let g = turned t.0 u.0 h in (insert_before u.0 t us g n.0, n.1, ih)

    insert_normal : (t : K × C) (us : List (K × C)) → IsNormal r order us → IsNormal r order (insert_term r order t us)
    insert_normal t [] n = first_normal t [] (r.is_nil t.1) refl tt tt
    insert_normal t (u ∷ us) n = insert_normal_step t u us (order t.0 u.0) refl n (insert_normal t us n.2)

    pub normal_of-IsNormal : (p : List (K × C)) → IsNormal r order (normal_of r order p)
    unfolding normal_of
    normal_of-IsNormal [] = tt
    normal_of-IsNormal (t ∷ p) = insert_normal t (normal_of r order p) (normal_of-IsNormal p)

    -- a list in order that spells the map of p is the one
    pub is_normal_of : (n p : List (K × C)) → IsNormal r order n → IsSameMap r (eq_by_cmp order) n p → n ≡ normal_of r order p
    is_normal_of n p h m = normal_unique n (normal_of r order p) h (normal_of-IsNormal p) (λ k. m k ∙ sym (normal_of-map p k))

    -- a list in order stays
    pub normal_of-itself : (n : List (K × C)) → IsNormal r order n → normal_of r order n ≡ n
    normal_of-itself n h = sym (is_normal_of n n h (λ k. refl))

    -- equal maps have one normal list
    pub normal_of-same : (p q : List (K × C)) → IsSameMap r (eq_by_cmp order) p q → normal_of r order p ≡ normal_of r order q
    normal_of-same p q m = is_normal_of (normal_of r order p) q (normal_of-IsNormal p) (λ k. normal_of-map p k ∙ m k)

    -- a term nil at first is left out
    pub normal_of-nil : (k : K) → normal_of r order ((k, r.nil) ∷ []) ≡ []
    unfolding normal_of
    normal_of-nil k = rw r.is_nil-nil refl
