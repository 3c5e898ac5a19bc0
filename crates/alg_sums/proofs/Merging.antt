-- The steps of merging two normal lists, and what they come to.
use Rattle.std.proofs.Common.{◌≡◌, List, [], ◌∷◌, ◌++◌, Bool, true, false, cond, refl, ap, ap₂, sym, subst, ◌∙◌, Ordering, Less, append_assoc, append-nil}
use Rattle.std.specs.Ordering.{eq_by_cmp}
use Rattle.alg_sums.specs.Coefficients.{Coefficients}
use Rattle.alg_sums.specs.Sum.{total_at, IsSameMap, IsBefore, IsNormal, normal_of, IsStrict, AllTerms}
use Rattle.alg_sums.specs.Merging.{IsAhead, IsMerged}
use Rattle.alg_sums.proofs.RingLaws.{nil_plus, plus_swap_middle}
use Rattle.alg_sums.proofs.Products.{total_at-append}
use Rattle.alg_sums.proofs.Normal.{before_all, is_normal_of}

module _ {C : Type 0} (r : Coefficients C) {K : Type 0} {order : K → K → Ordering} (s : IsStrict order) where
  abbrev same : K → K → Bool
  same = eq_by_cmp order

  -- ---- normal lists that go on from one another
  before_ahead : (k : K) (ts : List (K × C)) → IsNormal r order ts → IsAhead order k ts → IsBefore order k ts
  before_ahead k [] n h = tt
  before_ahead k (t ∷ ts) n h = (h, before_all r s k t.0 ts h n.0)

  normal_rest : (p q : List (K × C)) → IsNormal r order (p ++ q) → IsNormal r order q
  normal_rest [] q n = n
  normal_rest (t ∷ p) q n = normal_rest p q n.2

  before_put : (k : K) (done us vs : List (K × C)) (t : K × C) → IsBefore order k (done ++ t ∷ us) → IsBefore order k (done ++ vs) → IsBefore order k (done ++ t ∷ vs)
  before_put k [] us vs t h i = (h.0, i)
  before_put k (d ∷ done) us vs t h i = (h.0, before_put k done us vs t h.1 i.1)

  -- a term between what is done and what is left
  normal_put : (done us vs : List (K × C)) (t : K × C) → IsNormal r order (done ++ t ∷ us) → IsNormal r order (done ++ vs) → IsBefore order t.0 vs → IsNormal r order (done ++ t ∷ vs)
  normal_put [] us vs t n m b = (b, n.1, m)
  normal_put (d ∷ done) us vs t n m b = (before_put d.0 done us vs t n.0 m.0, n.1, normal_put done us vs t n.2 m.2 b)

  before_without : (k : K) (done us : List (K × C)) (t : K × C) → IsBefore order k (done ++ t ∷ us) → IsBefore order k (done ++ us)
  before_without k [] us t h = h.1
  before_without k (d ∷ done) us t h = (h.0, before_without k done us t h.1)

  normal_without : (done us : List (K × C)) (t : K × C) → IsNormal r order (done ++ t ∷ us) → IsNormal r order (done ++ us)
  normal_without [] us t n = n.2
  normal_without (d ∷ done) us t n = (before_without d.0 done us t n.0, n.1, normal_without done us t n.2)

  before_with : (k j : K) (done us : List (K × C)) (c d : C) → IsBefore order k (done ++ (j, c) ∷ us) → IsBefore order k (done ++ (j, d) ∷ us)
  before_with k j [] us c d h = h
  before_with k j (e ∷ done) us c d h = (h.0, before_with k j done us c d h.1)

  -- another coefficient
  normal_with : (k : K) (done us : List (K × C)) (c d : C) → IsNormal r order (done ++ (k, c) ∷ us) → (d ≡ r.nil → ⊥) → IsNormal r order (done ++ (k, d) ∷ us)
  normal_with k [] us c d n h = (n.0, h, n.2)
  normal_with k (e ∷ done) us c d n h = (before_with e.0 k done us c d n.0, n.1, normal_with k done us c d n.2 h)

  before_append : (k : K) (p q : List (K × C)) → IsBefore order k p → IsBefore order k q → IsBefore order k (p ++ q)
  before_append k [] q h i = i
  before_append k (t ∷ p) q h i = (h.0, before_append k p q h.1 i)

  before_first : (k : K) (p q : List (K × C)) → IsBefore order k (p ++ q) → IsBefore order k p
  before_first k [] q h = tt
  before_first k (t ∷ p) q h = (h.0, before_first k p q h.1)

  -- a list after another, whose terms all come before its first
  normal_append : (p rest q : List (K × C)) → IsNormal r order (p ++ rest) → IsNormal r order q → AllTerms (λ (t : K × C). IsAhead order t.0 q) p → IsNormal r order (p ++ q)
  normal_append [] rest q n m h = m
  normal_append (t ∷ p) rest q n m h = (before_append t.0 p q (before_first t.0 p rest n.0) (before_ahead t.0 q m h.0), n.1, normal_append p rest q n.2 m h.1)

  step_on : (done us : List (K × C)) (t : K × C) → IsNormal r order (done ++ t ∷ us) → IsNormal r order ((done ++ t ∷ []) ++ us)
  step_on done us t n = subst (IsNormal r order) (sym (append_assoc done (t ∷ []) us)) n

  -- ---- totals
  abbrev total : K → List (K × C) → C
  total k p = total_at r same k p

  total_push : (k : K) (p : List (K × C)) (t : K × C) → total k (p ++ t ∷ []) ≡ r.plus (total k p) (cond (same t.0 k) t.1 r.nil)
  total_push k p t = total_at-append r same k p (t ∷ []) ∙ ap (r.plus (total k p)) (r.plus_nil (cond (same t.0 k) t.1 r.nil))

  right_swap : (a b c : C) → r.plus (r.plus a b) c ≡ r.plus (r.plus a c) b
  right_swap a b c = r.plus_assoc a b c ∙ ap (r.plus a) (r.plus_comm b c) ∙ sym (r.plus_assoc a c b)

  chosen : (b : Bool) (c d : C) → cond b (r.plus c d) r.nil ≡ r.plus (cond b c r.nil) (cond b d r.nil)
  chosen true c d = refl
  chosen false c d = sym (r.plus_nil r.nil)

  none_chosen : (b : Bool) (c : C) → c ≡ r.nil → cond b c r.nil ≡ r.nil
  none_chosen true c e = e
  none_chosen false c e = refl

  -- ---- the steps
  module _ (p ps q qs done : List (K × C)) where
    -- the next term of the left list, which comes before what is left of the other
    pub take_left : (t : K × C) → IsMerged r order p (t ∷ ps) q qs done → IsAhead order t.0 qs → IsMerged r order (p ++ t ∷ []) ps q qs (done ++ t ∷ [])
    take_left t h a = record {
      left = step_on done ps t h.left;
      right = step_on done qs t (normal_put done ps qs t h.left h.right (before_ahead t.0 qs (normal_rest done qs h.right) a));
      map = λ k. total_push k done t ∙ ap (λ x. r.plus x (cond (same t.0 k) t.1 r.nil)) (h.map k) ∙ right_swap (total k p) (total k q) (cond (same t.0 k) t.1 r.nil) ∙ ap (λ x. r.plus x (total k q)) (sym (total_push k p t));
    }

    pub take_right : (u : K × C) → IsMerged r order p ps q (u ∷ qs) done → IsAhead order u.0 ps → IsMerged r order p ps (q ++ u ∷ []) qs (done ++ u ∷ [])
    take_right u h a = record {
      left = step_on done ps u (normal_put done qs ps u h.right h.left (before_ahead u.0 ps (normal_rest done ps h.left) a));
      right = step_on done qs u h.right;
      map = λ k. total_push k done u ∙ ap (λ x. r.plus x (cond (same u.0 k) u.1 r.nil)) (h.map k) ∙ r.plus_assoc (total k p) (total k q) (cond (same u.0 k) u.1 r.nil) ∙ ap (r.plus (total k p)) (sym (total_push k q u));
    }

    both_map : (j : K) (c d : C) → IsMerged r order p ((j, c) ∷ ps) q ((j, d) ∷ qs) done → (k : K) → r.plus (total k done) (cond (same j k) (r.plus c d) r.nil) ≡ r.plus (total k (p ++ (j, c) ∷ [])) (total k (q ++ (j, d) ∷ []))
    both_map j c d h k =
        ap₂ r.plus (h.map k) (chosen (same j k) c d)
        ∙ plus_swap_middle r (total k p) (total k q) (cond (same j k) c r.nil) (cond (same j k) d r.nil)
        ∙ sym (ap₂ r.plus (total_push k p (j, c)) (total_push k q (j, d)))

    -- the next terms of both, of one key
    pub take_both : (j : K) (c d : C) → IsMerged r order p ((j, c) ∷ ps) q ((j, d) ∷ qs) done → (r.plus c d ≡ r.nil → ⊥) → IsMerged r order (p ++ (j, c) ∷ []) ps (q ++ (j, d) ∷ []) qs (done ++ (j, r.plus c d) ∷ [])
    take_both j c d h n = record {
      left = step_on done ps (j, r.plus c d) (normal_with j done ps c (r.plus c d) h.left n);
      right = step_on done qs (j, r.plus c d) (normal_with j done qs d (r.plus c d) h.right n);
      map = λ k. total_push k done (j, r.plus c d) ∙ both_map j c d h k;
    }

    -- they cancel
    pub take_none : (j : K) (c d : C) → IsMerged r order p ((j, c) ∷ ps) q ((j, d) ∷ qs) done → r.plus c d ≡ r.nil → IsMerged r order (p ++ (j, c) ∷ []) ps (q ++ (j, d) ∷ []) qs done
    take_none j c d h e = record {
      left = normal_without done ps (j, c) h.left;
      right = normal_without done qs (j, d) h.right;
      map = λ k. sym (ap (r.plus (total k done)) (none_chosen (same j k) (r.plus c d) e) ∙ r.plus_nil (total k done)) ∙ both_map j c d h k;
    }

  -- ---- the beginning: terms of one list that come before all of the other
  pub start_left : (p ps q : List (K × C)) → IsNormal r order (p ++ ps) → IsNormal r order q → AllTerms (λ (t : K × C). IsAhead order t.0 q) p → IsMerged r order p ps [] q p
  start_left p ps q n m h = record { left = n; right = normal_append p ps q n m h; map = λ k. sym (r.plus_nil (total k p)) }

  pub start_right : (p q qs : List (K × C)) → IsNormal r order p → IsNormal r order (q ++ qs) → AllTerms (λ (t : K × C). IsAhead order t.0 p) q → IsMerged r order [] p q qs q
  start_right p q qs n m h = record { left = normal_append q qs p m n h; right = m; map = λ k. sym (nil_plus r (total k q)) }

  -- ---- the end: what is done is the normal list of the sum
  pub merged_all : (p q done : List (K × C)) → IsMerged r order p [] q [] done → done ≡ normal_of r order (p ++ q)
  merged_all p q done h =
      is_normal_of r s done (p ++ q) (subst (IsNormal r order) (append-nil done) h.left) (λ k. h.map k ∙ sym (total_at-append r same k p q))
