-- The indexes of one more declaration.
use Rattle.std.proofs.Common.{◌≡◌, ℕ, ◌+◌, ◌<◌, ◌≤◌, Bool, true, false, List, [], ◌∷◌, ◌++◌, length, ap, sym, ◌∙◌, subst, arith, inl, inr, Option, Some, None}
use Rattle.std.proofs.lemmas.Bool.{cases_eq}
use Rattle.std.proofs.lemmas.List.{append-nil, length-append, take-append-le, take_all, get_or_append_left, get_or_at}
use Rattle.alg_law.specs.declared.classes.Class.{Class}
use Rattle.alg_law.specs.Declarations.{Declaration, hypotheses}
use Rattle.alg_law.specs.Following.{MayFollow}
use Rattle.alg_law.specs.Places.{with_place, places_of, AreCounts}
use Rattle.alg_law.specs.Firsts.{AreFirst, IsPadded}
use Rattle.alg_law.specs.Noting.{TellsPlace, TellsInstance, HasRoom, placed, noted_for}
use Rattle.alg_law.specs.Indexing.{IsIndexed}
use Rattle.alg_law.proofs.PlaceLemmas.{places_of-push, length-places_of}
use Rattle.alg_law.proofs.PrefixLemmas.{AllMayFollow-append}
use Rattle.alg_law.proofs.FirstLemmas.{AreFirst-pass, AreFirst-note, AreFirst-padded}

placed-with : (ps : List ℕ) (given : Bool) (at : ℕ) (d : Declaration) → TellsPlace d given → placed ps given at ≡ ps ++ with_place d at []
placed-with ps true at d t = ap (λ ks. ps ++ ks) (sym (t at []))
placed-with ps false at d t = sym (append-nil ps) ∙ ap (λ ks. ps ++ ks) (sym (t at []))

placed-push : (ds : List Declaration) (ps : List ℕ) (given : Bool) (d : Declaration) → TellsPlace d given → ps ≡ places_of ds → placed ps given (length ds) ≡ places_of (ds ++ d ∷ [])
placed-push ds ps given d t e = placed-with ps given (length ds) d t ∙ ap (λ ks. ks ++ with_place d (length ds) []) e ∙ sym (places_of-push ds d)

AreFirst-push : (ds : List Declaration) (fs : List ℕ) (o : Option (ℕ × Class)) (d : Declaration) → TellsInstance d o → HasRoom fs o → AreFirst fs ds → AreFirst (noted_for fs o (length ds)) (ds ++ d ∷ [])
AreFirst-push ds fs None d t r f = AreFirst-pass fs ds d t f
AreFirst-push ds fs (Some p) d t r f = subst (λ (x : Declaration). AreFirst (noted_for fs (Some p) (length ds)) (ds ++ x ∷ [])) (sym t) (AreFirst-note fs ds p.0 p.1 r f)

AreCounts-push : (ds : List Declaration) (cs : List ℕ) (d : Declaration) (m : ℕ) → length cs ≡ length ds + 1 → m ≡ length (hypotheses (ds ++ d ∷ [])) → AreCounts cs ds → AreCounts (cs ++ m ∷ []) (ds ++ d ∷ [])
AreCounts-push ds cs d m e f h k l =
    elim (cases_eq k (length ds + 1)) [
      | inl p ↦
          let n : length (ds ++ d ∷ []) ≤ k = omega (arith, length-append ds (d ∷ [])) in
          rw (take_all k (ds ++ d ∷ []) n) (get_or_at cs m [] 0 k (e ∙ sym p) ∙ f)
      | inr p ↦
          let n : k ≤ length ds = omega (arith, length-append ds (d ∷ [])) in
          rw (take-append-le k ds (d ∷ []) n) (get_or_append_left cs (m ∷ []) 0 k (omega arith) ∙ h k n)
    ]

pub IsIndexed-padded : (ds : List Declaration) (ps cs fs gs : List ℕ) → IsPadded fs gs → IsIndexed ds ps cs fs → IsIndexed ds ps cs gs
IsIndexed-padded ds ps cs fs gs p h = record { room = h.room; well_formed = h.well_formed; places = h.places; len = h.len; counts = h.counts; first = AreFirst-padded fs gs ds p h.first }

pub IsIndexed-push : (ds : List Declaration) (ps cs fs : List ℕ) (d : Declaration) (given : Bool) (o : Option (ℕ × Class)) (at : ℕ)
    → IsIndexed ds ps cs fs → MayFollow ds d → at ≡ length ds → length ds < 4294967295 → TellsPlace d given → TellsInstance d o → HasRoom fs o
    → IsIndexed (ds ++ d ∷ []) (placed ps given at) (cs ++ length (placed ps given at) ∷ []) (noted_for fs o at)
IsIndexed-push ds ps cs fs d given o at h m e l t u r =
    subst (λ (n : ℕ). IsIndexed (ds ++ d ∷ []) (placed ps given n) (cs ++ length (placed ps given n) ∷ []) (noted_for fs o n)) (sym e)
    (let p = placed-push ds ps given d t h.places in
    record {
      room = omega (arith, length-append ds (d ∷ []));
      well_formed = AllMayFollow-append [] ds (d ∷ []) h.well_formed (m, tt);
      places = p;
      len = omega (arith, length-append ds (d ∷ []), length-append cs (length (placed ps given (length ds)) ∷ []), h.len);
      counts = AreCounts-push ds cs d (length (placed ps given (length ds))) h.len (ap length p ∙ length-places_of (ds ++ d ∷ [])) h.counts;
      first = AreFirst-push ds fs o d u r h.first;
    })
