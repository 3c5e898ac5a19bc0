-- Binder after binder.
use Rattle.std.proofs.Common.{◌≡◌, ℕ, refl, sym, ap, ◌∙◌, List, [], ◌∷◌, ◌++◌, map, Some, append_assoc, append-nil}
use Rattle.alg_law.specs.Declarations.{Declaration}
use Rattle.alg_names.specs.declared.scope.Scope.{Scope}
use Rattle.alg_names.specs.Entering.{entered}
use Rattle.alg_names.proofs.EnteringLemmas.{entered-joined}
use Rattle.alg_syntax.specs.Written.{Written}
use Rattle.alg_syntax.specs.declared.binders.Binder.{Binder}
use Rattle.alg_syntax.specs.declared.binders.Typed.{Typed}
use Rattle.alg_elaborate.specs.declared.causes.Cause.{Cause}
use Rattle.alg_elaborate.specs.Faults.{first}
use Rattle.alg_binders.specs.Adding.{Adds}
use Rattle.alg_binders.specs.Binders.{text_of, names_of, taken_faults, domain_faults, typed_faults, declared_as, binder_faults, declared_by, binders_faults, declared_by_all}

pub same_said : (f g : List ℕ → Declaration) (xs : List (List ℕ)) → ((x : List ℕ) → f x ≡ g x) → map f xs ≡ map g xs
same_said f g [] h = refl
same_said f g (x ∷ xs) h = λ i. h x i ∷ same_said f g xs h i

pub both_empty : (xs ys : List Cause) → xs ≡ [] → ys ≡ [] → xs ++ ys ≡ []
both_empty xs ys e f = (λ i. e i ++ f i)

pub first_left : (xs ys : List Cause) (c : Cause) → first xs ≡ Some c → first (xs ++ ys) ≡ Some c
first_left [] ys c e = cc
first_left (x ∷ xs) ys c e = e

pub first_right : (xs ys : List Cause) (c : Cause) → xs ≡ [] → first ys ≡ Some c → first (xs ++ ys) ≡ Some c
first_right xs ys c e f = ap (λ zs. first (zs ++ ys)) e ∙ f

-- what the binders from the first on come to is what the rest comes to from here on
pub record Walks (start : Scope) (bs : List Binder) (before : List Declaration) (here : Scope) (rest : List Binder) (told : List Declaration) : Type 0 where
  pub faults : binders_faults start bs ≡ binders_faults here rest
  pub enters : entered start (declared_by_all start bs) ≡ entered here (declared_by_all here rest)
  pub tells : told ++ declared_by_all here rest ≡ before ++ declared_by_all start bs
  pub some : (ds : List Declaration) × (here ≡ entered start ds)

pub walks_start : (s : Scope) (bs : List Binder) (before : List Declaration) → Walks s bs before s bs before
walks_start s bs before = record { faults = refl; enters = refl; tells = refl; some = ([], refl) }

pub walks_on : (start here next : Scope) (bs rest : List Binder) (b : Binder) (before told more : List Declaration) → Walks start bs before here (b ∷ rest) told → Adds (binder_faults here b) (declared_by here b) here next told more → Walks start bs before next rest more
walks_on start here next bs rest b before told more w a =
    let ds = declared_by here b in
    let e = a.entered in
    record {
      faults = w.faults ∙ (ap (λ xs. xs ++ binders_faults (entered here ds) rest) a.faultless ∙ ap (λ s. binders_faults s rest) (sym e));
      enters = w.enters ∙ (entered-joined here ds (declared_by_all (entered here ds) rest) ∙ ap (λ s. entered s (declared_by_all s rest)) (sym e));
      tells = (λ i. a.told i ++ declared_by_all (e i) rest) ∙ (append_assoc told ds (declared_by_all (entered here ds) rest) ∙ w.tells);
      some = (w.some.0 ++ ds, e ∙ (ap (λ s. entered s ds) w.some.1 ∙ sym (entered-joined start w.some.0 ds)));
    }

pub walks_end : (start here : Scope) (bs : List Binder) (before told : List Declaration) → Walks start bs before here [] told → Adds (binders_faults start bs) (declared_by_all start bs) start here before told
walks_end start here bs before told w =
    record { faultless = w.faults; entered = sym w.enters; told = sym (append-nil told) ∙ w.tells }

pub walks_fault : (start here : Scope) (bs rest : List Binder) (b : Binder) (before told : List Declaration) (c : Cause) → Walks start bs before here (b ∷ rest) told → first (binder_faults here b) ≡ Some c → first (binders_faults start bs) ≡ Some c
walks_fault start here bs rest b before told c w e =
    ap first w.faults ∙ first_left (binder_faults here b) (binders_faults (entered here (declared_by here b)) rest) c e

pub typed_adds : (s after : Scope) (t : Typed) (f : List ℕ → Declaration) (ws : List Written) (old mid new : List Declaration) → taken_faults s [] (names_of t) ≡ [] → domain_faults s t.domain ≡ [] → ((x : List ℕ) → f x ≡ declared_as s t.domain x) → ws ≡ t.more → after ≡ entered s (map f (t.first.text ∷ map text_of ws)) → mid ≡ old → new ≡ mid ++ map f (t.first.text ∷ map text_of ws) → Adds (typed_faults s t) (map (declared_as s t.domain) (names_of t)) s after old new
typed_adds s after t f ws old mid new e d h w p m q =
    let same = ap (λ us. map f (t.first.text ∷ map text_of us)) w ∙ same_said f (declared_as s t.domain) (names_of t) h in
    record {
      faultless = both_empty (taken_faults s [] (names_of t)) (domain_faults s t.domain) e d;
      entered = p ∙ ap (entered s) same;
      told = q ∙ λ i. m i ++ same i;
    }
