-- What a command without a fault is.
use Rattle.std.specs.Prelude.{◌≡◌, List, [], All}
use Rattle.alg_terms.specs.Tree.{Tree}
use Rattle.alg_expr.specs.Ids.{IsStatementIn}
use Rattle.alg_law.specs.Declarations.{declarations_of, IsDeclaredIn}
use Rattle.alg_syntax.specs.declared.commands.Command.{Command}
use Rattle.alg_syntax.specs.declared.commands.Command.TheVariants.{Import, Variable, Theorem, Example}
use Rattle.alg_names.specs.declared.scope.Scope.{Scope}
use Rattle.alg_binders.specs.Binders.{declared_by_all}
use Rattle.alg_binders.specs.Stated.{IsStated}
use Rattle.alg_parse.specs.declared.commands.Elaborated.{Elaborated}
use Rattle.alg_parse.specs.declared.commands.Elaborated.TheVariants.{Declares, States}

-- the declarations or the goal of a command
abbrev pub IsElaborated : Scope → List Tree → Command → Elaborated → Type 0
IsElaborated s ts (Import n) (Declares ds) = ds ≡ []
IsElaborated s ts (Import n) (States g) = ⊥
IsElaborated s ts (Variable bs) (Declares ds) = declarations_of ts ds ≡ declared_by_all s bs
IsElaborated s ts (Variable bs) (States g) = ⊥
IsElaborated s ts (Theorem n p) (Declares ds) = ⊥
IsElaborated s ts (Theorem n p) (States g) = IsStated s p ts g
IsElaborated s ts (Example p) (Declares ds) = ⊥
IsElaborated s ts (Example p) (States g) = IsStated s p ts g

-- its trees are of the arena
abbrev pub IsElaboratedIn : List Tree → Elaborated → Type 0
IsElaboratedIn ts (Declares ds) = All (IsDeclaredIn ts) ds
IsElaboratedIn ts (States g) = All (IsDeclaredIn ts) g.local × IsStatementIn ts g.stmt
