-- What is declared of a name.
use Rattle.std.proofs.Common.{◌≡◌, ℕ, refl, sym, subst, arith, List, [], ◌∷◌, ◌++◌, length, false, None}
use Rattle.std.proofs.lemmas.List.{map-append}
use Rattle.alg_terms.specs.declared.sorts.Sort.{Sort}
use Rattle.alg_terms.specs.Tree.{Tree}
use Rattle.alg_law.specs.Declarations.{Declaration, Variable, Function}
use Rattle.alg_names.specs.declared.meanings.Meaning.{Meaning}
use Rattle.alg_names.specs.declared.scope.Scope.{Scope}
use Rattle.alg_names.specs.Entering.{enter, IsFresh}
use Rattle.alg_names.specs.Found.{found}
use Rattle.alg_binders.specs.declared.domains.Said.{Said}
use Rattle.alg_binders.specs.declared.domains.Said.TheVariants as said
use Rattle.alg_binders.specs.Binders.{is_among, of_signature}
use Rattle.alg_binders.specs.Said.{said_of}
use Rattle.alg_binders.specs.Texts.{texts}
use Rattle.alg_binders.proofs.TakenLaws.{not_found}

pub without_arguments : (x : List ℕ) (ks : List Sort) (l : Sort) → length ks ≡ 0 → of_signature x ks l ≡ Variable x l
without_arguments x [] l e = refl
without_arguments x (k ∷ ks) l e = absurd (omega arith)

pub with_arguments : (x : List ℕ) (ks : List Sort) (l : Sort) → (length ks ≡ 0 → ⊥) → of_signature x ks l ≡ Function x ks l
with_arguments x [] l e = absurd (e refl)
with_arguments x (k ∷ ks) l e = refl

fresh_said : (s : Scope) (ts : List Tree) (d : Said) (x : List ℕ) → found s.names x ≡ None → IsFresh s (said_of ts d x)
fresh_said s ts said.Carrier x e = e
fresh_said s ts (said.Sorts [] l) x e = e
fresh_said s ts (said.Sorts (k ∷ ks) l) x e = e
fresh_said s ts (said.Holds p) x e = e

pub fresh_as : (s : Scope) (ts : List Tree) (d : Said) (x : List ℕ) (e : Declaration) → is_among (texts s.names) x ≡ false → e ≡ said_of ts d x → IsFresh s e
fresh_as s ts d x e n p = subst (IsFresh s) (sym p) (fresh_said s ts d x (not_found s.names x n))

one_more : (ds : List (List ℕ × Meaning)) (x : List ℕ) (m : Meaning) → texts (ds ++ (x, m) ∷ []) ≡ texts ds ++ x ∷ []
one_more ds x m = map-append (λ (d : List ℕ × Meaning). d.0) ds ((x, m) ∷ [])

pub texts_entered : (s : Scope) (ts : List Tree) (d : Said) (x : List ℕ) → texts ((enter s (said_of ts d x)).names) ≡ texts s.names ++ x ∷ []
texts_entered s ts said.Carrier x = one_more s.names x _
texts_entered s ts (said.Sorts [] l) x = one_more s.names x _
texts_entered s ts (said.Sorts (k ∷ ks) l) x = one_more s.names x _
texts_entered s ts (said.Holds p) x = one_more s.names x _
