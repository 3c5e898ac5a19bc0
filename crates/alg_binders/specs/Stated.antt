-- What a goal without a fault says.
use Rattle.std.specs.Prelude.{◌≡◌, List, []}
use Rattle.alg_terms.specs.Tree.{Tree}
use Rattle.alg_expr.specs.Ids.{statement_of}
use Rattle.alg_law.specs.Declarations.{declarations_of}
use Rattle.alg_syntax.specs.declared.commands.Goal.{Goal}
use Rattle.alg_names.specs.declared.scope.Scope.{Scope}
use Rattle.alg_names.specs.Entering.{entered}
use Rattle.alg_elaborate.specs.Statements.{typed_statement}
use Rattle.alg_binders.specs.declared.goals.Stated.{Stated}
use Rattle.alg_binders.specs.Binders.{declared_by_all}
use Rattle.alg_binders.specs.CommandFaults.{goal_faults}

-- no fault; the declarations of its binders, and its statement in their scope
pub record IsStated (s : Scope) (g : Goal) (ts : List Tree) (d : Stated) : Type 0 where
  pub faultless : goal_faults s g ≡ []
  pub local : declarations_of ts d.local ≡ declared_by_all s g.binders
  pub stated : statement_of ts d.stmt ≡ typed_statement (entered s (declared_by_all s g.binders)) g.statement
