-- What a command of a file tells.
use Rattle.std.specs.Prelude.{ℕ, List, [], ◌∷◌, ◌++◌, codes, decimal, Option, Some, None}
use Rattle.alg_terms.specs.declared.sorts.Sort.{Sort}
use Rattle.alg_terms.specs.Tree.{Statement}
use Rattle.alg_law.specs.Combinations.{Part}
use Rattle.alg_law.specs.Declarations.{Declaration}
use Rattle.alg_syntax.specs.declared.scripts.Step.{Step}
use Rattle.alg_syntax.specs.declared.scripts.Step.TheVariants.{Combination, Procedure}
use Rattle.alg_syntax.specs.declared.scripts.Further.{Further}
use Rattle.alg_syntax.specs.declared.scripts.Script.{Script}
use Rattle.alg_names.specs.declared.scope.Scope.{Scope}
use Rattle.alg_elaborate.specs.declared.causes.Cause.{Cause}
use Rattle.alg_elaborate.specs.Raw.{meant}
use Rattle.alg_binders.specs.declared.procedures.Procedure.{Procedure as NamedProcedure}
use Rattle.alg_binders.specs.Procedures.{procedure_named}
use Rattle.alg_combinations.specs.Combined.{combined}

-- a procedure that is its name alone, or one with a combination
pub data Call : Type 0 where
  plain : NamedProcedure → Call
  combination : List Part → Call

-- declarations, a goal, or a faulty command; a goal has its label, its line, how many declarations of earlier commands
-- are in force, its own declarations, its statement and its procedures
pub data Told : Type 0 where
  declares : Told
  goal : (label : List ℕ) (line : ℕ) (prefix : ℕ) → List Declaration → Statement → List Call → Told
  faulty : (line : ℕ) → Cause → Told

-- a procedure by its name; without one, the name is a fault
abbrev pub calls_named : Option NamedProcedure → List Call
calls_named None = []
calls_named (Some p) = plain p ∷ []

-- a procedure without a fault, on a goal of the sort k
abbrev pub calls_at : Scope → Sort → Step → List Call
calls_at s k (Combination f e) = combination (combined s k (meant e)) ∷ []
calls_at s k (Procedure n) = calls_named (procedure_named n.text)

abbrev pub further_calls : Scope → Sort → List Further → List Call
further_calls s k [] = []
further_calls s k (x ∷ xs) = calls_at s k x.step ++ further_calls s k xs

abbrev pub calls_of : Scope → Sort → Script → List Call
calls_of s k c = calls_at s k c.first ++ further_calls s k c.further

-- a goal without a name is called after its line
abbrev pub unnamed : ℕ → List ℕ
unnamed line = codes "example@" ++ decimal line
