-- What binders without a fault declare is new, one declaration after another.
use Rattle.std.proofs.Common.{◌≡◌, ℕ, List, [], ◌∷◌, ◌++◌, map, Bool, true, false, ◌||◌, Option, Some, None, is_some, refl, sym, ap, ◌∙◌, cond}
use Rattle.std.specs.Str.{bytes_eq}
use Rattle.alg_terms.specs.declared.sorts.Sort.{Sort}
use Rattle.alg_law.specs.Declarations.{Declaration}
use Rattle.alg_syntax.specs.declared.binders.Domain.{Domain}
use Rattle.alg_syntax.specs.declared.binders.Domain.TheVariants as domain
use Rattle.alg_syntax.specs.declared.binders.Typed.{Typed}
use Rattle.alg_syntax.specs.declared.binders.Binder.{Binder}
use Rattle.alg_syntax.specs.declared.binders.Binder.TheVariants as binder
use Rattle.alg_names.specs.declared.scope.Scope.{Scope}
use Rattle.alg_names.specs.Entering.{enter, entered, IsFresh}
use Rattle.alg_names.specs.Found.{found}
use Rattle.alg_elaborate.specs.declared.causes.Cause.TheVariants.{NameTaken}
use Rattle.alg_elaborate.specs.Faults.{when}
use Rattle.alg_well_sorted.proofs.Parts.{append_parts, when_off}
use Rattle.alg_binders.specs.Binders.{names_of, is_among, taken_faults, domain_faults, of_signature, declared_as, binder_faults, declared_by, binders_faults, declared_by_all}
use Rattle.alg_show.specs.ReadingBack.{AllNew}

-- whether a name is in force
abbrev knows : Scope → List ℕ → Bool
knows s x = is_some (found s.names x)

-- the declaration is of this name: it is fresh where the name isn't in force, and puts it alone in force
record Declares (x : List ℕ) (d : Declaration) : Type 0 where
  pub fresh : (s : Scope) → found s.names x ≡ None → IsFresh s d
  pub enters : (s : Scope) (y : List ℕ) → knows (enter s d) y ≡ (knows s y || bytes_eq y x)

found_last : {A : Type 0} (xs : List (List ℕ × A)) (x : List ℕ) (a : A) (y : List ℕ) → is_some (found (xs ++ (x, a) ∷ []) y) ≡ (is_some (found xs y) || bytes_eq y x)
found_last [] x a y = by (bytes_eq y x)
  where
    by : (b : Bool) → is_some (cond b (Some a) None) ≡ b
    by true = refl
    by false = refl
found_last {A = A} (z ∷ xs) x a y = by (bytes_eq y z.0) (found_last xs x a y)
  where
    by : (b : Bool) → is_some (found (xs ++ (x, a) ∷ []) y) ≡ (is_some (found xs y) || bytes_eq y x) → is_some (cond b (Some z.1) (found (xs ++ (x, a) ∷ []) y)) ≡ (is_some (cond b (Some z.1) (found xs y)) || bytes_eq y x)
    by true h = refl
    by false h = h

declares_by : (x : List ℕ) (ks : List Sort) (k : Sort) → Declares x (of_signature x ks k)
declares_by x [] k = record { fresh = λ s e. e; enters = λ s y. found_last s.names x _ y }
declares_by x (l ∷ ks) k = record { fresh = λ s e. e; enters = λ s y. found_last s.names x _ y }

declares_as : (s : Scope) (d : Domain) (x : List ℕ) → Declares x (declared_as s d x)
declares_as s (domain.Carrier starred) x = record { fresh = λ t e. e; enters = λ t y. found_last t.names x _ y }
declares_as s (domain.Sorts n ns) x = declares_by x _ _
declares_as s (domain.Holds p) x = record { fresh = λ t e. e; enters = λ t y. found_last t.names x _ y }

or_off : (a b : Bool) → (a || b) ≡ false → a ≡ false
or_off true b e = e
or_off false b e = refl

or_last : (a b c : Bool) → ((a || b) || c) ≡ (a || (b || c))
or_last true b c = refl
or_last false b c = refl

or_false : (b : Bool) → (b || false) ≡ b
or_false true = refl
or_false false = refl

among_last : (before : List (List ℕ)) (x y : List ℕ) → is_among (before ++ x ∷ []) y ≡ (is_among before y || bytes_eq y x)
among_last [] x y = or_false (bytes_eq y x)
among_last (z ∷ before) x y = ap (λ b. bytes_eq y z || b) (among_last before x y) ∙ sym (or_last (bytes_eq y z) (is_among before y) (bytes_eq y x))

none_of : {A : Type 0} (o : Option A) → is_some o ≡ false → o ≡ None
none_of None e = refl
none_of (Some a) e = cc

-- The names come into force one after another, where the scope has those before in force besides its own.
names_new : (start here : Scope) (f : List ℕ → Declaration) (before xs : List (List ℕ)) → ((x : List ℕ) → Declares x (f x)) → ((y : List ℕ) → knows here y ≡ (knows start y || is_among before y)) → taken_faults start before xs ≡ [] → AllNew here (map f xs)
names_new start here f before [] all same e = tt
names_new start here f before (x ∷ xs) all same e =
    let taken = knows start x || is_among before x in
    let none = append_parts (when taken NameTaken) (taken_faults start (before ++ x ∷ []) xs) e in
    let fresh = none_of (found here.names x) (same x ∙ when_off taken NameTaken none.0) in (
      (all x).fresh here fresh,
      names_new start (enter here (f x)) f (before ++ x ∷ []) xs all
          (λ y. (all x).enters here y ∙ (ap (λ b. b || bytes_eq y x) (same y) ∙ (or_last (knows start y) (is_among before y) (bytes_eq y x) ∙ ap (λ b. knows start y || b) (sym (among_last before x y)))))
          none.1,
    )

typed_new : (s : Scope) (t : Typed) → taken_faults s [] (names_of t) ++ domain_faults s t.domain ≡ [] → AllNew s (map (declared_as s t.domain) (names_of t))
typed_new s t e =
    names_new s s (declared_as s t.domain) [] (names_of t) (λ x. declares_as s t.domain x) (λ y. sym (or_false (knows s y)))
    (append_parts (taken_faults s [] (names_of t)) (domain_faults s t.domain) e).0

binder_new : (s : Scope) (b : Binder) → binder_faults s b ≡ [] → AllNew s (declared_by s b)
binder_new s (binder.Explicit f t) e = typed_new s t e
binder_new s (binder.Implicit t) e = typed_new s t e
binder_new s (binder.Instance c w) e = (tt, tt)

pub new_joined : (s : Scope) (ds es : List Declaration) → AllNew s ds → AllNew (entered s ds) es → AllNew s (ds ++ es)
new_joined s [] es h more = more
new_joined s (d ∷ ds) es h more = (h.0, new_joined (enter s d) ds es h.1 more)

pub binders_new : (s : Scope) (bs : List Binder) → binders_faults s bs ≡ [] → AllNew s (declared_by_all s bs)
binders_new s [] e = tt
binders_new s (b ∷ bs) e =
    let here = entered s (declared_by s b) in
    let none = append_parts (binder_faults s b) (binders_faults here bs) e in
    new_joined s (declared_by s b) (declared_by_all here bs) (binder_new s b none.0) (binders_new here bs none.1)
