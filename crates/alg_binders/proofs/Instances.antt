-- A class of a type variable.
use Rattle.std.proofs.Common.{◌≡◌, ℕ, sym, ap, ◌∙◌, List, [], ◌∷◌, ◌++◌, Some, None}
use Rattle.std.specs.Prelude.{unwrap_or}
use Rattle.alg_terms.specs.declared.sorts.Sort.TheVariants.{Nat, Decl}
use Rattle.alg_law.specs.declared.classes.Class.{Class}
use Rattle.alg_law.specs.declared.classes.Class.TheVariants.{Semigroup}
use Rattle.alg_law.specs.Declarations.{Declaration, Instance}
use Rattle.alg_syntax.specs.Written.{Written}
use Rattle.alg_syntax.specs.declared.binders.Binder.TheVariants as binder
use Rattle.alg_names.specs.declared.scope.Scope.{Scope}
use Rattle.alg_names.specs.Entering.{enter}
use Rattle.alg_names.specs.InForce.{meaning}
use Rattle.alg_elaborate.specs.declared.causes.Cause.{Cause}
use Rattle.alg_elaborate.specs.declared.causes.Cause.TheVariants.{UnknownName}
use Rattle.alg_elaborate.specs.Faults.{first}
use Rattle.alg_elaborate.specs.Meanings.{type_of}
use Rattle.alg_binders.specs.Adding.{Adds}
use Rattle.alg_binders.specs.Binders.{class_faults, class_of, sort_of, number_of, type_variable_faults, instance_faults, binder_faults, declared_by}
use Rattle.alg_binders.specs.ClassNames.{class_named}

pub no_class : (s : Scope) (c w : Written) → class_named c.text ≡ None → first (binder_faults s (binder.Instance c w)) ≡ Some UnknownName
no_class s c w e = ap (λ o. first (class_faults o ++ (type_variable_faults (meaning s w.text) ++ instance_faults s (class_of c.text) (sort_of s w.text)))) e

known : (s : Scope) (c w : Written) (k : Class) → class_named c.text ≡ Some k → binder_faults s (binder.Instance c w) ≡ type_variable_faults (meaning s w.text) ++ instance_faults s k (sort_of s w.text)
known s c w k e =
    ap (λ o. class_faults o ++ (type_variable_faults (meaning s w.text) ++ instance_faults s (class_of c.text) (sort_of s w.text))) e
    ∙ ap (λ o. type_variable_faults (meaning s w.text) ++ instance_faults s (unwrap_or o Semigroup) (sort_of s w.text)) e

pub no_variable : (s : Scope) (c w : Written) (k : Class) (z : Cause) → class_named c.text ≡ Some k → ((rest : List Cause) → first (type_variable_faults (meaning s w.text) ++ rest) ≡ Some z) → first (binder_faults s (binder.Instance c w)) ≡ Some z
no_variable s c w k z e f = ap first (known s c w k e) ∙ f (instance_faults s k (sort_of s w.text))

only : (s : Scope) (c w : Written) (k : Class) (n : ℕ) → class_named c.text ≡ Some k → type_variable_faults (meaning s w.text) ≡ [] → unwrap_or (type_of (meaning s w.text)) Nat ≡ Decl n → binder_faults s (binder.Instance c w) ≡ instance_faults s k (Decl n)
only s c w k n e f g = known s c w k e ∙ λ i. f i ++ instance_faults s k (g i)

pub no_instance : (s : Scope) (c w : Written) (k : Class) (n : ℕ) (z : Cause) → class_named c.text ≡ Some k → type_variable_faults (meaning s w.text) ≡ [] → unwrap_or (type_of (meaning s w.text)) Nat ≡ Decl n → first (instance_faults s k (Decl n)) ≡ Some z → first (binder_faults s (binder.Instance c w)) ≡ Some z
no_instance s c w k n z e f g h = ap first (only s c w k n e f g) ∙ h

pub adds_instance : (s after : Scope) (c w : Written) (k : Class) (n : ℕ) (old new : List Declaration) → class_named c.text ≡ Some k → type_variable_faults (meaning s w.text) ≡ [] → unwrap_or (type_of (meaning s w.text)) Nat ≡ Decl n → instance_faults s k (Decl n) ≡ [] → after ≡ enter s (Instance n k) → new ≡ old ++ Instance n k ∷ [] → Adds (binder_faults s (binder.Instance c w)) (declared_by s (binder.Instance c w)) s after old new
adds_instance s after c w k n old new e f g h p q =
    let d : Instance (number_of (sort_of s w.text)) (class_of c.text) ≡ Instance n k = λ i. Instance (number_of (g i)) (unwrap_or (e i) Semigroup) in
    record {
      faultless = only s c w k n e f g ∙ h;
      entered = p ∙ ap (enter s) (sym d);
      told = q ∙ ap (λ x. old ++ x ∷ []) (sym d);
    }
