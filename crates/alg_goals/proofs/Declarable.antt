-- Declarations that can be written stay so where binders without a fault add to them.
use Rattle.std.proofs.Common.{◌≡◌, ℕ, List, [], ◌∷◌, ◌++◌, map, arith}
use Rattle.alg_terms.specs.declared.sorts.Sort.{Sort}
use Rattle.alg_law.specs.Declarations.{Declaration}
use Rattle.alg_syntax.specs.declared.binders.Domain.{Domain}
use Rattle.alg_syntax.specs.declared.binders.Domain.TheVariants as domain
use Rattle.alg_syntax.specs.declared.binders.Binder.{Binder}
use Rattle.alg_syntax.specs.declared.binders.Binder.TheVariants as binder
use Rattle.alg_names.specs.declared.scope.Scope.{Scope}
use Rattle.alg_names.specs.Entering.{entered}
use Rattle.alg_binders.specs.Binders.{names_of, of_signature, declared_as, declared_by, binders_faults, declared_by_all}
use Rattle.alg_show.specs.ReadingBack.{IsNamed, IsWritable, AllWritable, AreDeclarable, at_first, in_force}
use Rattle.alg_goals.proofs.NamesSpelled.{TextsNamed, BinderNamed, BindersNamed}
use Rattle.alg_goals.proofs.NewNames.{new_joined, binders_new}

writable_by : (x : List ℕ) (ks : List Sort) (k : Sort) → IsNamed x → IsWritable (of_signature x ks k)
writable_by x [] k h = h
writable_by x (l ∷ ks) k h = (h, omega arith)

writable_as : (s : Scope) (d : Domain) (x : List ℕ) → IsNamed x → IsWritable (declared_as s d x)
writable_as s (domain.Carrier starred) x h = h
writable_as s (domain.Sorts n ns) x h = writable_by x _ _ h
writable_as s (domain.Holds p) x h = h

names_writable : (s : Scope) (d : Domain) (xs : List (List ℕ)) → TextsNamed xs → AllWritable (map (declared_as s d) xs)
names_writable s d [] h = tt
names_writable s d (x ∷ xs) h = (writable_as s d x h.0, names_writable s d xs h.1)

binder_writable : (s : Scope) (b : Binder) → BinderNamed b → AllWritable (declared_by s b)
binder_writable s (binder.Explicit f t) h = names_writable s t.domain (names_of t) h
binder_writable s (binder.Implicit t) h = names_writable s t.domain (names_of t) h
binder_writable s (binder.Instance c w) h = (tt, tt)

writable_joined : (ds es : List Declaration) → AllWritable ds → AllWritable es → AllWritable (ds ++ es)
writable_joined [] es h more = more
writable_joined (d ∷ ds) es h more = (h.0, writable_joined ds es h.1 more)

binders_writable : (s : Scope) (bs : List Binder) → BindersNamed bs → AllWritable (declared_by_all s bs)
binders_writable s [] h = tt
binders_writable s (b ∷ bs) h =
    let here = entered s (declared_by s b) in
    writable_joined (declared_by s b) (declared_by_all here bs) (binder_writable s b h.0) (binders_writable here bs h.1)

-- before anything is declared
pub nothing_declarable : AreDeclarable []
nothing_declarable = record { writable = tt; new = tt }

-- and with what such binders declare
pub more_declarable : (ds : List Declaration) (bs : List Binder) → AreDeclarable ds → BindersNamed bs → binders_faults (in_force ds) bs ≡ [] → AreDeclarable (ds ++ declared_by_all (in_force ds) bs)
more_declarable ds bs h n e =
    let es = declared_by_all (in_force ds) bs in
    record {
      writable = writable_joined ds es h.writable (binders_writable (in_force ds) bs n);
      new = new_joined at_first ds es h.new (binders_new (in_force ds) bs e);
    }
