-- What entering declarations leaves of a scope, and that it is taken back.
use Rattle.std.proofs.Common.{◌≡◌, ℕ, List, [], ◌∷◌, ◌++◌, length, take, refl, sym, ap, ◌∙◌, append_assoc, append-nil}
use Rattle.std.proofs.lemmas.List.{take_at}
use Rattle.alg_law.specs.Declarations.{Declaration, Carrier, Instance, Variable, Function, Hypothesis}
use Rattle.alg_names.specs.declared.grants.Granted.{Granted}
use Rattle.alg_names.specs.declared.meanings.Meaning.{Meaning}
use Rattle.alg_names.specs.declared.scope.Scope.{Scope}
use Rattle.alg_names.specs.Entering.{enter, entered, checkpoint_of, cut_to}

pub entered-joined : (s : Scope) (ds es : List Declaration) → entered s (ds ++ es) ≡ entered (entered s ds) es
entered-joined s [] es = refl
entered-joined s (d ∷ ds) es = entered-joined (enter s d) ds es

-- what was in force stays first
pub record Keeps (s t : Scope) : Type 0 where
  pub names : (more : List (List ℕ × Meaning)) × (t.names ≡ s.names ++ more)
  pub granted : (more : List Granted) × (t.granted ≡ s.granted ++ more)

enter-keeps : (s : Scope) (d : Declaration) → Keeps s (enter s d)
enter-keeps s (Carrier n) = record { names = (_, refl); granted = ([], sym (append-nil s.granted)) }
enter-keeps s (Instance k c) = record { names = ([], sym (append-nil s.names)); granted = (_, refl) }
enter-keeps s (Variable n l) = record { names = (_, refl); granted = ([], sym (append-nil s.granted)) }
enter-keeps s (Function n ls l) = record { names = (_, refl); granted = ([], sym (append-nil s.granted)) }
enter-keeps s (Hypothesis n h) = record { names = (_, refl); granted = ([], sym (append-nil s.granted)) }

Keeps-then : (s t u : Scope) → Keeps s t → Keeps t u → Keeps s u
Keeps-then s t u p q =
    record {
      names = (p.names.0 ++ q.names.0, q.names.1 ∙ (ap (λ xs. xs ++ q.names.0) p.names.1 ∙ append_assoc s.names p.names.0 q.names.0));
      granted = (p.granted.0 ++ q.granted.0, q.granted.1 ∙ (ap (λ xs. xs ++ q.granted.0) p.granted.1 ∙ append_assoc s.granted p.granted.0 q.granted.0));
    }

entered-keeps : (s : Scope) (ds : List Declaration) → Keeps s (entered s ds)
entered-keeps s [] = record { names = ([], sym (append-nil s.names)); granted = ([], sym (append-nil s.granted)) }
entered-keeps s (d ∷ ds) = Keeps-then s (enter s d) (entered (enter s d) ds) (enter-keeps s d) (entered-keeps (enter s d) ds)

-- what was entered is taken out of force again
pub cut_to-entered : (s : Scope) (ds : List Declaration) → cut_to (entered s ds) (checkpoint_of s) ≡ s
cut_to-entered s ds =
    let k = entered-keeps s ds in
    λ i. record {
      names = (ap (λ xs. take (length s.names) xs) k.names.1 ∙ take_at s.names k.names.0 (length s.names) refl) i;
      granted = (ap (λ xs. take (length s.granted) xs) k.granted.1 ∙ take_at s.granted k.granted.0 (length s.granted) refl) i;
      declared = s.declared;
      hypotheses = s.hypotheses;
    }
