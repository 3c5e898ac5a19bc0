-- Two normal lists of terms while they are merged to the one of their sum.
use Rattle.std.specs.Prelude.{◌≡◌, List, [], ◌∷◌, ◌++◌}
use Rattle.std.specs.Ordering.{eq_by_cmp}
use Rattle.std.specs.declared.cmp.Ordering.{Ordering}
use Rattle.std.specs.declared.cmp.Ordering.TheVariants.{Less}
use Rattle.alg_sums.specs.Coefficients.{Coefficients}
use Rattle.alg_sums.specs.Sum.{total_at, IsNormal}

-- the key comes before that of the first term, if there is one
abbrev pub IsAhead : {C K : Type 0} → (K → K → Ordering) → K → List (K × C) → Type 0
IsAhead order k [] = Unit {0}
IsAhead order k (t ∷ ts) = order k t.0 ≡ Less

-- what was taken of both lists gives what is done, and what is left of each goes on from there
pub record IsMerged {C K : Type 0} (r : Coefficients C) (order : K → K → Ordering) (left_taken left_rest right_taken right_rest done : List (K × C)) : Type 0 where
  pub left : IsNormal r order (done ++ left_rest)
  pub right : IsNormal r order (done ++ right_rest)
  pub map : (k : K) → total_at r (eq_by_cmp order) k done ≡ r.plus (total_at r (eq_by_cmp order) k left_taken) (total_at r (eq_by_cmp order) k right_taken)
