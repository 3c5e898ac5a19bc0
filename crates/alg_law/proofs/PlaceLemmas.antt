-- The places of hypotheses.
use Rattle.std.proofs.Common.{◌≡◌, ℕ, zero, suc, List, [], ◌∷◌, ◌++◌, length, map, refl, ap, sym, ◌∙◌, Option, Some, None, slice_get, rules}
use Rattle.std.specs.Prelude.{option_map, option_and_then}
use Rattle.std.proofs.lemmas.Option.{slice_get-map}
use Rattle.std.proofs.lemmas.List.{map-append, length-map}
use Rattle.alg_terms.specs.Tree.{Statement}
use Rattle.alg_law.specs.Declarations.{Declaration, Carrier, Instance, Variable, Function, Hypothesis, hypotheses, with_hypothesis}
use Rattle.alg_law.specs.Places.{statement_in, with_place, places_of}

-- what stands at a place
abbrev pub looked : List Declaration → Option ℕ → Option Statement
looked ds o = option_and_then (λ k. option_and_then statement_in (slice_get ds k)) o

looked-suc : (d : Declaration) (ds : List Declaration) (o : Option ℕ) → looked (d ∷ ds) (option_map (λ k. suc k) o) ≡ looked ds o
looked-suc d ds None = refl
looked-suc d ds (Some k) = refl

moved : (d : Declaration) (ds : List Declaration) (i : ℕ) → looked (d ∷ ds) (slice_get (map (λ k. suc k) (places_of ds)) i) ≡ looked ds (slice_get (places_of ds) i)
moved d ds i = rw (slice_get-map (λ k. suc k) (places_of ds) i) (looked-suc d ds (slice_get (places_of ds) i))

-- at the place of hypothesis i stands its statement
pub looked-places : (ds : List Declaration) (i : ℕ) → looked ds (slice_get (places_of ds) i) ≡ slice_get (hypotheses ds) i
looked-places [] i = refl
looked-places (Carrier n ∷ ds) i = moved (Carrier n) ds i ∙ looked-places ds i
looked-places (Instance k c ∷ ds) i = moved (Instance k c) ds i ∙ looked-places ds i
looked-places (Variable n s ∷ ds) i = moved (Variable n s) ds i ∙ looked-places ds i
looked-places (Function n ss s ∷ ds) i = moved (Function n ss s) ds i ∙ looked-places ds i
looked-places (Hypothesis n h ∷ ds) zero = refl
looked-places (Hypothesis n h ∷ ds) (suc i) = moved (Hypothesis n h) ds i ∙ looked-places ds i

length-with_place : (d : Declaration) (k : ℕ) (ks : List ℕ) (hs : List Statement) → length ks ≡ length hs → length (with_place d k ks) ≡ length (with_hypothesis d hs)
length-with_place d k ks hs e = search rules

pub length-places_of : (ds : List Declaration) → length (places_of ds) ≡ length (hypotheses ds)
length-places_of [] = refl
length-places_of (d ∷ ds) = length-with_place d 0 (map (λ k. suc k) (places_of ds)) (hypotheses ds) (length-map (places_of ds) (λ k. suc k) ∙ length-places_of ds)

with_place-append : (d : Declaration) (k : ℕ) (ks js : List ℕ) → with_place d k (ks ++ js) ≡ with_place d k ks ++ js
with_place-append d k ks js = search rules

map-with_place : (d : Declaration) (k : ℕ) → map (λ j. suc j) (with_place d k []) ≡ with_place d (suc k) []
map-with_place d k = search rules

-- one more declaration
pub places_of-push : (ds : List Declaration) (d : Declaration) → places_of (ds ++ d ∷ []) ≡ places_of ds ++ with_place d (length ds) []
places_of-push [] d = refl
places_of-push (x ∷ xs) d =
    ap (λ ks. with_place x 0 (map (λ k. suc k) ks)) (places_of-push xs d)
    ∙ ap (λ ks. with_place x 0 ks) (map-append (λ k. suc k) (places_of xs) (with_place d (length xs) []))
    ∙ with_place-append x 0 (map (λ k. suc k) (places_of xs)) (map (λ k. suc k) (with_place d (length xs) []))
    ∙ ap (λ ks. with_place x 0 (map (λ k. suc k) (places_of xs)) ++ ks) (map-with_place d (length xs))

-- what a look into the places finds
module _ (ds : List Declaration) (ps : List ℕ) (i : ℕ) (p : ps ≡ places_of ds) where
  pub found : (k : ℕ) → slice_get ps i ≡ Some k → option_and_then statement_in (slice_get ds k) ≡ slice_get (hypotheses ds) i
  found k e = ap (looked ds) (sym e ∙ ap (λ ks. slice_get ks i) p) ∙ looked-places ds i

  pub missed : slice_get ps i ≡ None → slice_get (hypotheses ds) i ≡ None
  missed e = sym (looked-places ds i) ∙ ap (looked ds) (sym (ap (λ ks. slice_get ks i) p) ∙ e)
