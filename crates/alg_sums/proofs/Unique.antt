-- Maps need to be compared at the keys that occur alone.
use Rattle.std.proofs.Common.{◌≡◌, List, [], ◌∷◌, cond, refl, ap, ap₂, sym, ◌∙◌, Ordering, Less, Equal, Greater}
use Rattle.std.specs.Ordering.{eq_by_cmp}
use Rattle.alg_sums.specs.Coefficients.{Coefficients}
use Rattle.alg_sums.specs.Sum.{total_at, IsSameMap, IsNormal, normal_of, IsStrict}
use Rattle.alg_sums.specs.Sum.{AllTerms}
use Rattle.alg_sums.proofs.Terms.{AllTerms-normal_of}
use Rattle.alg_sums.proofs.Normal.{cancel_left, turned, total_at-before, before_all, first_total, same_items, normal_of-map, normal_of-IsNormal}

module _ {C : Type 0} (r : Coefficients C) {K : Type 0} {order : K → K → Ordering} (s : IsStrict order) (G : K → Type 0) where
  -- the two maps are equal at each key that meets G
  abbrev pub IsSameOn : List (K × C) → List (K × C) → Type 0
  IsSameOn p q = (k : K) → G k → total_at r (eq_by_cmp order) k p ≡ total_at r (eq_by_cmp order) k q

  abbrev pub AllKeys : List (K × C) → Type 0
  AllKeys = AllTerms (λ (t : K × C). G t.0)

  rest_step : (t u : K × C) (p q : List (K × C)) → t.0 ≡ u.0 → t.1 ≡ u.1 → IsSameOn (t ∷ p) (u ∷ q) → IsSameOn p q
  rest_step t u p q h i m j g =
      let same = eq_by_cmp order in
      let c : cond (same t.0 j) t.1 r.nil ≡ cond (same u.0 j) u.1 r.nil = ap₂ (λ x y. cond (same x j) y r.nil) h i in
      cancel_left r (cond (same t.0 j) t.1 r.nil) (total_at r same j p) (total_at r same j q) (m j g ∙ ap (λ x. r.plus x (total_at r same j q)) (sym c))

  head_cases : (t u : K × C) (p q : List (K × C)) → IsNormal r order (t ∷ p) → IsNormal r order (u ∷ q) → G t.0 → G u.0 → IsSameOn (t ∷ p) (u ∷ q) → (IsSameOn p q → p ≡ q) → (o : Ordering) → order t.0 u.0 ≡ o → t ∷ p ≡ u ∷ q
  head_cases t u p q a b g j m ih Less h = absurd (a.1 (sym (first_total r s t p a.0) ∙ m t.0 g ∙ total_at-before r s t.0 (u ∷ q) (h, before_all r s t.0 u.0 q h b.0)))
  head_cases t u p q a b g j m ih Greater h =
      let l = turned r s t.0 u.0 h in
      absurd (b.1 (sym (first_total r s u q b.0) ∙ sym (m u.0 j) ∙ total_at-before r s u.0 (t ∷ p) (l, before_all r s u.0 t.0 p l a.0)))
  head_cases t u p q a b g j m ih Equal h =
      let k : t.0 ≡ u.0 = s.ties t.0 u.0 h in
      let c : t.1 ≡ u.1 = sym (first_total r s t p a.0) ∙ m t.0 g ∙ ap (λ x. total_at r (eq_by_cmp order) x (u ∷ q)) k ∙ first_total r s u q b.0 in
      same_items r s t u p q k c (ih (rest_step t u p q k c m))

  unique_on : (p q : List (K × C)) → IsNormal r order p → IsNormal r order q → AllKeys p → AllKeys q → IsSameOn p q → p ≡ q
  unique_on [] [] a b g j m = refl
  unique_on [] (u ∷ q) a b g j m = absurd (b.1 (sym (first_total r s u q b.0) ∙ sym (m u.0 j.0)))
  unique_on (t ∷ p) [] a b g j m = absurd (a.1 (sym (first_total r s t p a.0) ∙ m t.0 g.0))
  unique_on (t ∷ p) (u ∷ q) a b g j m = head_cases t u p q a b g.0 j.0 m (λ i. unique_on p q a.2 b.2 g.1 j.1 i) (order t.0 u.0) refl

  normal_keys : (p : List (K × C)) → AllKeys p → AllKeys (normal_of r order p)
  normal_keys p g = AllTerms-normal_of r order (λ t. G t.0) (λ t u h i. i) p g

  -- maps that are equal at the keys that occur have one list, and are equal
  pub same_from_keys : (p q : List (K × C)) → AllKeys p → AllKeys q → IsSameOn p q → normal_of r order p ≡ normal_of r order q
  same_from_keys p q g j m = unique_on (normal_of r order p) (normal_of r order q) (normal_of-IsNormal r s p) (normal_of-IsNormal r s q) (normal_keys p g) (normal_keys q j) (λ k h. normal_of-map r s p k ∙ m k h ∙ sym (normal_of-map r s q k))

  pub map_from_keys : (p q : List (K × C)) → AllKeys p → AllKeys q → IsSameOn p q → IsSameMap r (eq_by_cmp order) p q
  map_from_keys p q g j m k = sym (normal_of-map r s p k) ∙ ap (total_at r (eq_by_cmp order) k) (same_from_keys p q g j m) ∙ normal_of-map r s q k
