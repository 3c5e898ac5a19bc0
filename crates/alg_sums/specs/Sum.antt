-- Formal sums: a list of (key, coefficient) spells the finite map that gives each key the sum of its coefficients.
use Rattle.std.specs.Prelude.{◌≡◌, Bool, cond, List, [], ◌∷◌, map, flat_map}
use Rattle.std.specs.Ordering.{match_ordering}
use Rattle.std.specs.Cmp.{IsTotalOrder}
use Rattle.std.specs.declared.cmp.Ordering.{Ordering}
use Rattle.std.specs.declared.cmp.Ordering.TheVariants.{Less, Equal}
use Rattle.alg_sums.specs.Coefficients.{Coefficients}

-- what the terms give at the key k
abbrev pub total_at : {C K : Type 0} → Coefficients C → (K → K → Bool) → K → List (K × C) → C
total_at r same k [] = r.nil
total_at r same k (t ∷ ts) = r.plus (cond (same t.0 k) t.1 r.nil) (total_at r same k ts)

-- two lists of terms spell one map
abbrev pub IsSameMap : {C K : Type 0} → Coefficients C → (K → K → Bool) → List (K × C) → List (K × C) → Type 0
IsSameMap {C} {K} r same p q = (k : K) → total_at r same k p ≡ total_at r same k q

-- the terms negated
abbrev pub negated : {C K : Type 0} → Coefficients C → List (K × C) → List (K × C)
negated r p = map (λ t. (t.0, r.minus t.1)) p

-- the terms of p times one term
abbrev pub scaled : {C K : Type 0} → Coefficients C → (K → K → K) → (K × C) → List (K × C) → List (K × C)
scaled r times t p = map (λ s. (times t.0 s.0, r.times t.1 s.1)) p

-- each term of p times each term of q
abbrev pub products : {C K : Type 0} → Coefficients C → (K → K → K) → List (K × C) → List (K × C) → List (K × C)
products r times p q = flat_map (λ t. scaled r times t q) p

-- k is before the key of each term
abbrev pub IsBefore : {C K : Type 0} → (K → K → Ordering) → K → List (K × C) → Type 0
IsBefore order k [] = Unit {0}
IsBefore order k (t ∷ ts) = (order k t.0 ≡ Less) × IsBefore order k ts

-- the keys rise, and no coefficient is 0
abbrev pub IsNormal : {C K : Type 0} → Coefficients C → (K → K → Ordering) → List (K × C) → Type 0
IsNormal r order [] = Unit {0}
IsNormal r order (t ∷ ts) = IsBefore order t.0 ts × (t.1 ≡ r.nil → ⊥) × IsNormal r order ts

-- one term put into a list in order
abbrev pub insert_term : {C K : Type 0} → Coefficients C → (K → K → Ordering) → (K × C) → List (K × C) → List (K × C)
insert_term r order t [] = cond (r.is_nil t.1) [] (t ∷ [])
insert_term r order t (u ∷ us) = match_ordering (order t.0 u.0) (cond (r.is_nil t.1) (u ∷ us) (t ∷ u ∷ us)) (cond (r.is_nil (r.plus t.1 u.1)) us ((u.0, r.plus t.1 u.1) ∷ us)) (u ∷ insert_term r order t us)

-- the list in order that spells the map of p
unfoldable pub normal_of : {C K : Type 0} → Coefficients C → (K → K → Ordering) → List (K × C) → List (K × C)
normal_of r order [] = []
normal_of r order (t ∷ ts) = insert_term r order t (normal_of r order ts)

-- an order in which only equal keys tie
pub record IsStrict {K : Type 0} (order : K → K → Ordering) : Type 0 where
  pub total : IsTotalOrder order
  pub ties : (x y : K) → order x y ≡ Equal → x ≡ y

-- P holds of each term
abbrev pub AllTerms : {K C : Type 0} → (K × C → Type 0) → List (K × C) → Type 0
AllTerms P [] = Unit {0}
AllTerms P (t ∷ ts) = P t × AllTerms P ts

-- the terms with their keys renamed
abbrev pub renamed : {K J C : Type 0} → (K → J) → List (K × C) → List (J × C)
renamed f p = map (λ t. (f t.0, t.1)) p
