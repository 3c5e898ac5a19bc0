-- Names that are taken, and names that are new.
use Rattle.std.proofs.Common.{◌≡◌, ℕ, refl, sym, ap, ◌∙◌, List, [], ◌∷◌, ◌++◌, Bool, true, false, Option, Some, None}
use Rattle.std.specs.Prelude.{◌||◌, is_some, cond}
use Rattle.std.specs.Str.{bytes_eq}
use Rattle.std.proofs.lemmas.List.{map-append}
use Rattle.alg_names.specs.declared.meanings.Meaning.{Meaning}
use Rattle.alg_names.specs.declared.scope.Scope.{Scope}
use Rattle.alg_names.specs.Found.{found}
use Rattle.alg_names.specs.InForce.{meaning}
use Rattle.alg_elaborate.specs.declared.causes.Cause.{Cause}
use Rattle.alg_elaborate.specs.declared.causes.Cause.TheVariants.{NameTaken}
use Rattle.alg_elaborate.specs.Faults.{first, when}
use Rattle.alg_binders.specs.Binders.{is_among, taken_faults}
use Rattle.alg_binders.specs.Texts.{texts, AreNew}

pub or_true : (b : Bool) → (b || true) ≡ true
or_true true = refl
or_true false = refl

or_assoc : (a b c : Bool) → (a || (b || c)) ≡ ((a || b) || c)
or_assoc true b c = refl
or_assoc false b c = refl

some_cond : (b : Bool) (m : Meaning) (o : Option Meaning) → is_some (cond b (Some m) o) ≡ (b || is_some o)
some_cond true m o = refl
some_cond false m o = refl

-- a name is found where its text is among the texts
pub found_among : (ds : List (List ℕ × Meaning)) (x : List ℕ) → is_some (found ds x) ≡ is_among (texts ds) x
found_among [] x = refl
found_among (d ∷ ds) x = some_cond (bytes_eq x d.0) d.1 (found ds x) ∙ ap (λ b. bytes_eq x d.0 || b) (found_among ds x)

none_of : (o : Option Meaning) → is_some o ≡ false → o ≡ None
none_of None e = refl
none_of (Some m) e = cc

pub not_found : (ds : List (List ℕ × Meaning)) (x : List ℕ) → is_among (texts ds) x ≡ false → found ds x ≡ None
not_found ds x e = none_of (found ds x) (found_among ds x ∙ e)

pub taken_in_force : (s : Scope) (ys xs : List (List ℕ)) (x : List ℕ) → is_some (meaning s x) ≡ true → first (taken_faults s ys (x ∷ xs)) ≡ Some NameTaken
taken_in_force s ys xs x e = ap (λ b. first (when (b || is_among ys x) NameTaken ++ taken_faults s (ys ++ x ∷ []) xs)) e

pub taken_before : (s : Scope) (ds : List (List ℕ × Meaning)) (xs : List (List ℕ)) (x : List ℕ) → is_some (found ds x) ≡ true → first (taken_faults s (texts ds) (x ∷ xs)) ≡ Some NameTaken
taken_before s ds xs x e =
    ap (λ b. first (when (is_some (meaning s x) || b) NameTaken ++ taken_faults s (texts ds ++ x ∷ []) xs)) (sym (found_among ds x) ∙ e)
    ∙ ap (λ b. first (when b NameTaken ++ taken_faults s (texts ds ++ x ∷ []) xs)) (or_true (is_some (meaning s x)))

pub not_taken : (s : Scope) (old new : List (List ℕ × Meaning)) (xs : List (List ℕ)) (x : List ℕ) (m : Meaning) → is_some (meaning s x) ≡ false → is_some (found old x) ≡ false → new ≡ old ++ (x, m) ∷ [] → taken_faults s (texts old) (x ∷ xs) ≡ taken_faults s (texts new) xs
not_taken s old new xs x m e f g =
    (λ i. when (e i || (sym (found_among old x) ∙ f) i) NameTaken ++ taken_faults s (texts old ++ x ∷ []) xs)
    ∙ ap (λ ys. taken_faults s ys xs) (sym (ap texts g ∙ map-append (λ (d : List ℕ × Meaning). d.0) old ((x, m) ∷ [])))

among_joined : (ys zs : List (List ℕ)) (x : List ℕ) → is_among (ys ++ zs) x ≡ (is_among ys x || is_among zs x)
among_joined [] zs x = refl
among_joined (y ∷ ys) zs x = ap (λ b. bytes_eq x y || b) (among_joined ys zs x) ∙ or_assoc (bytes_eq x y) (is_among ys x) (is_among zs x)

no_when : (b : Bool) (c : Cause) (cs : List Cause) → when b c ++ cs ≡ [] → (b ≡ false) × (cs ≡ [])
no_when true c cs e = cc
no_when false c cs e = (refl, e)

pub new_of : (s : Scope) (before ys xs : List (List ℕ)) → ((x : List ℕ) → is_among ys x ≡ (is_some (meaning s x) || is_among before x)) → taken_faults s before xs ≡ [] → AreNew ys xs
new_of s before ys [] h e = tt
new_of s before ys (x ∷ xs) h e =
    let n = no_when (is_some (meaning s x) || is_among before x) NameTaken (taken_faults s (before ++ x ∷ []) xs) e in (
      h x ∙ n.0,
      new_of s (before ++ x ∷ []) (ys ++ x ∷ []) xs
          (λ z. among_joined ys (x ∷ []) z ∙ (ap (λ b. b || is_among (x ∷ []) z) (h z) ∙ (sym (or_assoc (is_some (meaning s z)) (is_among before z) (is_among (x ∷ []) z)) ∙ ap (λ b. is_some (meaning s z) || b) (sym (among_joined before (x ∷ []) z))))) n.1,
    )

-- names without a fault are new
pub new_names : (s : Scope) (xs : List (List ℕ)) → taken_faults s [] xs ≡ [] → AreNew (texts s.names) xs
new_names s xs e = new_of s [] (texts s.names) xs (λ x. sym (found_among s.names x) ∙ sym (or_false (is_some (meaning s x)))) e
  where
    or_false : (b : Bool) → (b || false) ≡ b
    or_false true = refl
    or_false false = refl
