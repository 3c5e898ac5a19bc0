-- Terms with other names for their keys.
use Rattle.std.proofs.Common.{◌≡◌, List, [], ◌∷◌, Bool, true, false, cond, refl, ap, ap₂, ◌∙◌, Ordering, Less, Equal, Greater}
use Rattle.std.specs.Ordering.{match_ordering}
use Rattle.alg_sums.specs.Coefficients.{Coefficients}
use Rattle.alg_sums.specs.Sum.{insert_term, normal_of, AllTerms, renamed}
use Rattle.alg_sums.proofs.Terms.{AllTerms-normal_of}

module _ {C : Type 0} (r : Coefficients C) {K J : Type 0} (G : K → Type 0) (f : K → J) (order : K → K → Ordering) (order' : J → J → Ordering) (keeps : (x y : K) → G x → G y → order' (f x) (f y) ≡ order x y) where
  same_case : (t u : K × C) (us : List (K × C)) (o : Ordering) (b c : Bool) (v : List (K × C)) → match_ordering o (cond b (renamed f (u ∷ us)) ((f t.0, t.1) ∷ renamed f (u ∷ us))) (cond c (renamed f us) ((f u.0, r.plus t.1 u.1) ∷ renamed f us)) ((f u.0, u.1) ∷ renamed f v) ≡ renamed f (match_ordering o (cond b (u ∷ us) (t ∷ u ∷ us)) (cond c us ((u.0, r.plus t.1 u.1) ∷ us)) (u ∷ v))
  same_case t u us Less true c v = refl
  same_case t u us Less false c v = refl
  same_case t u us Equal b true v = refl
  same_case t u us Equal b false v = refl
  same_case t u us Greater b c v = refl

  one_case : (t : K × C) (b : Bool) → cond b [] ((f t.0, t.1) ∷ []) ≡ renamed f (cond b [] (t ∷ []))
  one_case t true = refl
  one_case t false = refl

  insert_renamed : (t : K × C) (us : List (K × C)) → G t.0 → AllTerms (λ (u : K × C). G u.0) us → insert_term r order' (f t.0, t.1) (renamed f us) ≡ renamed f (insert_term r order t us)
  insert_renamed t [] g a = one_case t (r.is_nil t.1)
  insert_renamed t (u ∷ us) g a =
      ap₂ (λ o x. match_ordering o (cond (r.is_nil t.1) (renamed f (u ∷ us)) ((f t.0, t.1) ∷ renamed f (u ∷ us))) (cond (r.is_nil (r.plus t.1 u.1)) (renamed f us) ((f u.0, r.plus t.1 u.1) ∷ renamed f us)) ((f u.0, u.1) ∷ x)) (keeps t.0 u.0 g a.0) (insert_renamed t us g a.1)
      ∙ same_case t u us (order t.0 u.0) (r.is_nil t.1) (r.is_nil (r.plus t.1 u.1)) (insert_term r order t us)

  -- to rename the keys and to put in order change places
  pub normal_of-renamed : (p : List (K × C)) → AllTerms (λ (u : K × C). G u.0) p → normal_of r order' (renamed f p) ≡ renamed f (normal_of r order p)
  unfolding normal_of
  normal_of-renamed [] a = refl
  normal_of-renamed (t ∷ p) a = ap (insert_term r order' (f t.0, t.1)) (normal_of-renamed p a.1) ∙ insert_renamed t (normal_of r order p) a.0 (AllTerms-normal_of r order (λ (u : K × C). G u.0) (λ t u h i. i) p a.1)
