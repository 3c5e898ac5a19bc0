-- What holds of each term of a list.
use Rattle.std.proofs.Common.{List, [], ◌∷◌, ◌++◌, Bool, true, false, cond, Ordering, Less, Equal, Greater}
use Rattle.std.specs.Ordering.{match_ordering}
use Rattle.alg_sums.specs.Coefficients.{Coefficients}
use Rattle.alg_sums.specs.Sum.{insert_term, normal_of, AllTerms}

pub AllTerms-append : {K C : Type 0} (P : K × C → Type 0) (p q : List (K × C)) → AllTerms P p → AllTerms P q → AllTerms P (p ++ q)
AllTerms-append P [] q h i = i
AllTerms-append P (t ∷ p) q h i = (h.0, AllTerms-append P p q h.1 i)

module _ {C : Type 0} (r : Coefficients C) where
  -- ---- a list put in order
  module _ {K : Type 0} (order : K → K → Ordering) (P : K × C → Type 0) (sum : (t u : K × C) → P t → P u → P (u.0, r.plus t.1 u.1)) where
    first_kept : (t : K × C) (us : List (K × C)) (b : Bool) → P t → AllTerms P us → AllTerms P (cond b us (t ∷ us))
    first_kept t us true h i = i
    first_kept t us false h i = (h, i)

    insert_step : (t u : K × C) (us v : List (K × C)) (o : Ordering) → P t → AllTerms P (u ∷ us) → AllTerms P v → AllTerms P (match_ordering o (cond (r.is_nil t.1) (u ∷ us) (t ∷ u ∷ us)) (cond (r.is_nil (r.plus t.1 u.1)) us ((u.0, r.plus t.1 u.1) ∷ us)) (u ∷ v))
    insert_step t u us v Less h i j = first_kept t (u ∷ us) (r.is_nil t.1) h i
    insert_step t u us v Equal h i j = first_kept (u.0, r.plus t.1 u.1) us (r.is_nil (r.plus t.1 u.1)) (sum t u h i.0) i.1
    insert_step t u us v Greater h i j = (i.0, j)

    insert_kept : (t : K × C) (us : List (K × C)) → P t → AllTerms P us → AllTerms P (insert_term r order t us)
    insert_kept t [] h i = first_kept t [] (r.is_nil t.1) h i
    insert_kept t (u ∷ us) h i = insert_step t u us (insert_term r order t us) (order t.0 u.0) h i (insert_kept t us h i.1)

    pub AllTerms-normal_of : (p : List (K × C)) → AllTerms P p → AllTerms P (normal_of r order p)
    unfolding normal_of
    AllTerms-normal_of [] h = tt
    AllTerms-normal_of (t ∷ p) h = insert_kept t (normal_of r order p) h.0 (AllTerms-normal_of p h.1)
