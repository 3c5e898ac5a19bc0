-- What binders without a fault declare may follow what is declared.
use Rattle.std.proofs.Common.{◌≡◌, ℕ, false, not, ◌&&◌, ◌||◌, List, [], ◌∷◌, ◌++◌, map, All, Option, Some, None, refl, sym, ◌∙◌}
use Rattle.std.proofs.lemmas.List.Elements.{All-nil, All-cons, All-head, All-tail}
use Rattle.std.specs.Prelude.{slice_get, unwrap_or}
use Rattle.alg_terms.specs.declared.sorts.Sort.{Sort}
use Rattle.alg_terms.specs.declared.sorts.Sort.TheVariants.{Nat, Int, Rat, Decl}
use Rattle.alg_law.specs.declared.classes.Class.{Class}
use Rattle.alg_law.specs.declared.classes.Class.TheVariants.{Semigroup, AddMonoid, LinearOrder}
use Rattle.alg_law.specs.Classes.{all_of, is_among}
use Rattle.alg_law.specs.Declarations.{Declaration}
use Rattle.alg_law.specs.Following.{IsKnown, IsInstance, MayFollow, AllMayFollow, needs, has_all, gives_again}
use Rattle.alg_law.specs.Having.{has_class, instance_gives}
use Rattle.alg_law.specs.WellSorted.{is_type}
use Rattle.alg_syntax.specs.Written.{Written}
use Rattle.alg_syntax.specs.declared.binders.Domain.{Domain}
use Rattle.alg_syntax.specs.declared.binders.Domain.TheVariants as domain
use Rattle.alg_syntax.specs.declared.binders.Binder.{Binder}
use Rattle.alg_syntax.specs.declared.binders.Binder.TheVariants as binder
use Rattle.alg_names.specs.declared.meanings.Meaning.{Meaning}
use Rattle.alg_names.specs.declared.meanings.Meaning.TheVariants.{SortName, Variable, Function, Shared, Hypothesis}
use Rattle.alg_names.specs.declared.scope.Scope.{Scope}
use Rattle.alg_names.specs.Entering.{entered}
use Rattle.alg_names.specs.InForce.{meaning, instances}
use Rattle.alg_elaborate.specs.declared.causes.Cause.TheVariants as cause
use Rattle.alg_elaborate.specs.Faults.{when}
use Rattle.alg_elaborate.specs.Meanings.{type_of}
use Rattle.alg_binders.specs.ClassNames.{class_named}
use Rattle.alg_binders.specs.Binders.{names_of, taken_faults, domain_faults, type_variable_faults, class_faults, instance_faults, class_of, sort_of, binder_faults, all_but_last, last_of, of_signature, sorts_of, declared_as, number_of, declared_by, binders_faults, declared_by_all}
use Rattle.alg_well_sorted.specs.Agreeing.{IsMeant, Agrees, Follows}
use Rattle.alg_well_sorted.proofs.Parts.{append_parts, when_none, when_off, has_same}
use Rattle.alg_well_sorted.proofs.TypedGood.{is_meant}
use Rattle.alg_well_sorted.proofs.StatementsGood.{IsKnownIf, type-known, statement-good}
use Rattle.alg_well_sorted.proofs.EnteringLaws.{type_there, agrees-more, entered-follows, all_follow-joined}

or_natural-known : (ds : List Declaration) (o : Option Sort) → IsKnownIf ds o → IsKnown ds (unwrap_or o Nat)
or_natural-known ds None h = refl
or_natural-known ds (Some k) h = h

sort_of-known : (s : Scope) (ds : List Declaration) → Agrees s ds → (x : List ℕ) → IsKnown ds (sort_of s x)
sort_of-known s ds a x = or_natural-known ds (type_of (meaning s x)) (type-known ds (meaning s x) (is_meant s ds a x))

sorts_of-known : (s : Scope) (ds : List Declaration) → Agrees s ds → (ws : List Written) → All (IsKnown ds) (sorts_of s ws)
sorts_of-known s ds a [] = All-nil (IsKnown ds)
sorts_of-known s ds a (w ∷ ws) = All-cons (IsKnown ds) (sort_of s w.text) (sorts_of s ws) (sort_of-known s ds a w.text) (sorts_of-known s ds a ws)

front-known : (ds : List Declaration) (k : Sort) (ls : List Sort) → IsKnown ds k → All (IsKnown ds) ls → All (IsKnown ds) (all_but_last k ls)
front-known ds k [] h i = All-nil (IsKnown ds)
front-known ds k (l ∷ ls) h i = All-cons (IsKnown ds) k (all_but_last l ls) h (front-known ds l ls (All-head (IsKnown ds) l ls i) (All-tail (IsKnown ds) l ls i))

last-known : (ds : List Declaration) (k : Sort) (ls : List Sort) → IsKnown ds k → All (IsKnown ds) ls → IsKnown ds (last_of k ls)
last-known ds k [] h i = h
last-known ds k (l ∷ ls) h i = last-known ds l ls (All-head (IsKnown ds) l ls i) (All-tail (IsKnown ds) l ls i)

signature-follows : (ds : List Declaration) (x : List ℕ) (ks : List Sort) (l : Sort) → All (IsKnown ds) ks → IsKnown ds l → MayFollow ds (of_signature x ks l)
signature-follows ds x [] l h i = i
signature-follows ds x (k ∷ ks) l h i = (h, i)

-- what is said of a name without a fault
pub domain-follows : (s : Scope) (ds : List Declaration) → Agrees s ds → (d : Domain) → domain_faults s d ≡ [] → (x : List ℕ) → MayFollow ds (declared_as s d x)
domain-follows s ds a (domain.Carrier starred) e x = tt
domain-follows s ds a (domain.Sorts n ns) e x =
    let h = sort_of-known s ds a n.text in
    let i = sorts_of-known s ds a ns in
    signature-follows ds x (all_but_last (sort_of s n.text) (sorts_of s ns)) (last_of (sort_of s n.text) (sorts_of s ns)) (front-known ds (sort_of s n.text) (sorts_of s ns) h i) (last-known ds (sort_of s n.text) (sorts_of s ns) h i)
domain-follows s ds a (domain.Holds p) e x = statement-good s ds a p e

signature-classless : (x : List ℕ) (ks : List Sort) (l k : Sort) (c : Class) → instance_gives (of_signature x ks l) k c ≡ false
signature-classless x [] l k c = refl
signature-classless x (j ∷ ks) l k c = refl

classless : (s : Scope) (d : Domain) (x : List ℕ) (k : Sort) (c : Class) → instance_gives (declared_as s d x) k c ≡ false
classless s (domain.Carrier starred) x k c = refl
classless s (domain.Sorts n ns) x k c = signature-classless x (all_but_last (sort_of s n.text) (sorts_of s ns)) (last_of (sort_of s n.text) (sorts_of s ns)) k c
classless s (domain.Holds p) x k c = refl

names-follow : (s : Scope) (ds : List Declaration) → Agrees s ds → (d : Domain) → domain_faults s d ≡ [] → (xs : List (List ℕ)) → AllMayFollow ds (map (declared_as s d) xs)
names-follow s ds a d e [] = tt
names-follow s ds a d e (x ∷ xs) =
    (domain-follows s ds a d e x, names-follow s (ds ++ declared_as s d x ∷ []) (agrees-more s ds (declared_as s d x) a (λ k c. classless s d x k c)) d e xs)

has_all-same : (es ds : List Declaration) (k : Sort) → ((c : Class) → has_class es k c ≡ has_class ds k c) → (cs : List Class) → has_all es k cs ≡ has_all ds k cs
has_all-same es ds k h [] = refl
has_all-same es ds k h (c ∷ cs) = λ i. h c i && has_all-same es ds k h cs i

gives_again-same : (es ds : List Declaration) (k : Sort) → ((c : Class) → has_class es k c ≡ has_class ds k c) → (c : Class) → gives_again es k c ≡ gives_again ds k c
gives_again-same es ds k h c = λ i.
    (h Semigroup i && is_among (all_of c) Semigroup)
    || (h AddMonoid i && is_among (all_of c) AddMonoid)
    || (h LinearOrder i && is_among (all_of c) LinearOrder)

-- the name of a type variable stands for its number
instance-follows : (s : Scope) (ds : List Declaration) → Agrees s ds → (c : Class) (m : Option Meaning) → IsMeant ds m → type_variable_faults m ≡ [] → instance_faults s c (unwrap_or (type_of m) Nat) ≡ [] → IsInstance ds (number_of (unwrap_or (type_of m) Nat)) c
instance-follows s ds a c None h e f = cc
instance-follows s ds a c (Some (SortName Nat)) h e f = cc
instance-follows s ds a c (Some (SortName Int)) h e f = cc
instance-follows s ds a c (Some (SortName Rat)) h e f = cc
instance-follows s ds a c (Some (SortName (Decl j))) h e f =
    let p = append_parts (when (gives_again (instances s) (Decl j) c) cause.NoInstance) (when (not (has_all (instances s) (Decl j) (needs c))) cause.NoInstance) f in
    record {
      variable = type_there (is_type (slice_get ds j)) h;
      needed = sym (has_all-same (instances s) ds (Decl j) (has_same s ds a (Decl j)) (needs c)) ∙ when_none (has_all (instances s) (Decl j) (needs c)) cause.NoInstance p.1;
      new = sym (gives_again-same (instances s) ds (Decl j) (has_same s ds a (Decl j)) c) ∙ when_off (gives_again (instances s) (Decl j) c) cause.NoInstance p.0;
    }
instance-follows s ds a c (Some (Variable d l)) h e f = cc
instance-follows s ds a c (Some (Function g ls l)) h e f = cc
instance-follows s ds a c (Some (Shared g n)) h e f = cc
instance-follows s ds a c (Some (Hypothesis n r l)) h e f = cc

-- what a binder without a fault declares
pub binder-follows : (s : Scope) (ds : List Declaration) → Agrees s ds → (b : Binder) → binder_faults s b ≡ [] → AllMayFollow ds (declared_by s b)
binder-follows s ds a (binder.Explicit f t) e =
    let p = append_parts (taken_faults s [] (names_of t)) (domain_faults s t.domain) e in
    names-follow s ds a t.domain p.1 (names_of t)
binder-follows s ds a (binder.Implicit t) e =
    let p = append_parts (taken_faults s [] (names_of t)) (domain_faults s t.domain) e in
    names-follow s ds a t.domain p.1 (names_of t)
binder-follows s ds a (binder.Instance c w) e =
    let p = append_parts (class_faults (class_named c.text)) (type_variable_faults (meaning s w.text) ++ instance_faults s (class_of c.text) (sort_of s w.text)) e in
    let q = append_parts (type_variable_faults (meaning s w.text)) (instance_faults s (class_of c.text) (sort_of s w.text)) p.1 in
    (instance-follows s ds a (class_of c.text) (meaning s w.text) (is_meant s ds a w.text) q.0 q.1, tt)

-- what binders without a fault declare, in order
pub binders-follow : (s : Scope) (ds : List Declaration) → Follows s ds → (bs : List Binder) → binders_faults s bs ≡ [] → AllMayFollow ds (declared_by_all s bs)
binders-follow s ds f [] e = tt
binders-follow s ds f (b ∷ bs) e =
    let p = append_parts (binder_faults s b) (binders_faults (entered s (declared_by s b)) bs) e in
    let h = binder-follows s ds f.agrees b p.0 in
    all_follow-joined ds (declared_by s b) (declared_by_all (entered s (declared_by s b)) bs) h
    (binders-follow (entered s (declared_by s b)) (ds ++ declared_by s b) (entered-follows s ds (declared_by s b) f h) bs p.1)
