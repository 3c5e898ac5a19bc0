-- What an application means, by its name and its arguments.
use Rattle.std.proofs.Common.{◌≡◌, ℕ, refl, sym, ap, ◌∙◌, List, ◌++◌, Bool, Option, Some, None, append_assoc}
use Rattle.std.specs.Prelude.{◌&&◌}
use Rattle.alg_terms.specs.declared.sorts.Sort.{Sort}
use Rattle.alg_names.specs.declared.meanings.Meaning.{Meaning}
use Rattle.alg_names.specs.declared.scope.Scope.{Scope}
use Rattle.alg_names.specs.InForce.{meaning}
use Rattle.alg_elaborate.specs.declared.causes.Cause.{Cause}
use Rattle.alg_elaborate.specs.declared.causes.Cause.TheVariants.{BadCombination}
use Rattle.alg_elaborate.specs.Combinations.{any_proof}
use Rattle.alg_elaborate.specs.Meanings.{argument_sorts}
use Rattle.alg_elaborate.specs.Faults.{first, when, faults, faults_of_each, applied_faults, miscombines}
use Rattle.alg_syntax.specs.Expressions.{Tree, number, name, group, ascribed, minus, inverse, binary, apply}
use Rattle.alg_elaborate.specs.Raw.{literal, applied, none, count, meant, arguments, applied_at, head_of, IsApply}

applied_meant : (t : Tree) → IsApply t → meant t ≡ applied_at (head_of t) (arguments t none)
applied_meant (number f n) h = absurd h
applied_meant (name w) h = absurd h
applied_meant (group f a) h = absurd h
applied_meant (ascribed f a w) h = absurd h
applied_meant (minus a) h = absurd h
applied_meant (inverse a) h = absurd h
applied_meant (binary o a b) h = absurd h
applied_meant (apply a b) h = refl

pub applied_name : (t : Tree) (x : List ℕ) → IsApply t → head_of t ≡ Some x → meant t ≡ applied x (arguments t none)
applied_name t x h e = applied_meant t h ∙ ap (λ o. applied_at o (arguments t none)) e

pub applied_nothing : (t : Tree) → IsApply t → head_of t ≡ None → meant t ≡ literal 0
applied_nothing t h e = applied_meant t h ∙ ap (λ o. applied_at o (arguments t none)) e

-- what comes first behind nothing
second_first : (A M E R : List Cause) (z : Option Cause) → ((rest : List Cause) → first (A ++ rest) ≡ first rest) → ((rest : List Cause) → first (M ++ rest) ≡ z) → first ((A ++ (M ++ E)) ++ R) ≡ z
second_first A M E R z f g = ap first (append_assoc A (M ++ E) R) ∙ (f ((M ++ E) ++ R) ∙ (ap first (append_assoc M E R) ∙ g (E ++ R)))

pub misused_first : (s : Scope) (c : Bool) (k : Sort) (t : Tree) (x : List ℕ) (m : Option Meaning) (n : ℕ) (R : List Cause) (z : Option Cause) → IsApply t → head_of t ≡ Some x → m ≡ meaning s x → n ≡ count (arguments t none) → ((rest : List Cause) → first (applied_faults s k m n ++ rest) ≡ first rest) → ((rest : List Cause) → first (when (c && any_proof s (arguments t none)) BadCombination ++ rest) ≡ z) → first (faults s c k (meant t) ++ R) ≡ z
misused_first s c k t x m n R z h e p q f g =
    let us = arguments t none in
    ap (λ r. first (faults s c k r ++ R)) (applied_name t x h e)
    ∙ second_first (applied_faults s k (meaning s x) (count us)) (miscombines s c (applied x us)) (faults_of_each s c us (argument_sorts k (meaning s x))) R z
    (λ rest. sym (ap (λ (i : ℕ). first (applied_faults s k (meaning s x) i ++ rest)) q) ∙ (sym (ap (λ o. first (applied_faults s k o n ++ rest)) p) ∙ f rest)) g
