-- The faults of a command that is read, and what it declares.
use Rattle.std.specs.Prelude.{ℕ, List, [], ◌∷◌, ◌++◌, true, not, is_some}
use Rattle.alg_terms.specs.declared.sorts.Sort.{Sort}
use Rattle.alg_law.specs.Declarations.{Declaration}
use Rattle.alg_syntax.specs.declared.scripts.Step.{Step}
use Rattle.alg_syntax.specs.declared.scripts.Step.TheVariants as step
use Rattle.alg_syntax.specs.declared.scripts.Further.{Further}
use Rattle.alg_syntax.specs.declared.scripts.Script.{Script}
use Rattle.alg_syntax.specs.declared.commands.Goal.{Goal}
use Rattle.alg_syntax.specs.declared.commands.Command.{Command}
use Rattle.alg_syntax.specs.declared.commands.Command.TheVariants as command
use Rattle.alg_names.specs.declared.scope.Scope.{Scope}
use Rattle.alg_names.specs.Entering.{entered}
use Rattle.alg_elaborate.specs.declared.causes.Cause.{Cause}
use Rattle.alg_elaborate.specs.declared.causes.Cause.TheVariants.{NameTaken, UnknownProcedure}
use Rattle.alg_elaborate.specs.Raw.{meant}
use Rattle.alg_elaborate.specs.Faults.{when, faults}
use Rattle.alg_elaborate.specs.Statements.{statement_sort, statement_faults}
use Rattle.alg_binders.specs.Binders.{is_among, binders_faults, declared_by_all}
use Rattle.alg_binders.specs.Procedures.{procedure_named}

-- a procedure on a goal of the sort k
abbrev pub step_faults : Scope → Sort → Step → List Cause
step_faults s k (step.Combination f e) = faults s true k (meant e)
step_faults s k (step.Procedure n) = when (not (is_some (procedure_named n.text))) UnknownProcedure

abbrev pub further_faults : Scope → Sort → List Further → List Cause
further_faults s k [] = []
further_faults s k (p ∷ ps) = step_faults s k p.step ++ further_faults s k ps

abbrev pub script_faults : Scope → Sort → Script → List Cause
script_faults s k p = step_faults s k p.first ++ further_faults s k p.further

-- the statement and the procedures, in the scope of the binders
abbrev pub proof_faults : Scope → Goal → List Cause
proof_faults s g = statement_faults s g.statement ++ script_faults s (statement_sort s g.statement) g.script

abbrev pub goal_faults : Scope → Goal → List Cause
goal_faults s g = binders_faults s g.binders ++ proof_faults (entered s (declared_by_all s g.binders)) g

-- The faults of a command, where these names of theorems were used: the theorem's name, the binders, the statement, the
-- procedures.
abbrev pub command_faults : Scope → List (List ℕ) → Command → List Cause
command_faults s used (command.Import n) = []
command_faults s used (command.Variable bs) = binders_faults s bs
command_faults s used (command.Theorem n g) = when (is_among used n.text) NameTaken ++ goal_faults s g
command_faults s used (command.Example g) = goal_faults s g

-- what a command without a fault declares for those after it
abbrev pub declared_after : Scope → Command → List Declaration
declared_after s (command.Import n) = []
declared_after s (command.Variable bs) = declared_by_all s bs
declared_after s (command.Theorem n g) = []
declared_after s (command.Example g) = []
