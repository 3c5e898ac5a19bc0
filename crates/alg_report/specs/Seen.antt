-- What the commands of a file tell that was read, and what their scripts have to be to be run.
use Rattle.std.specs.Prelude.{List, map, All, ⊤}
use Rattle.alg_terms.specs.Tree.{Tree}
use Rattle.alg_expr.specs.Ids.{statement_of}
use Rattle.alg_law.specs.Declarations.{Declaration, declarations_of}
use Rattle.alg_parse.specs.declared.procedures.Proc.{Proc}
use Rattle.alg_parse.specs.declared.file_trees.Command.{Command}
use Rattle.alg_parse.specs.declared.file_trees.Command.TheVariants as command
use Rattle.alg_parse.specs.declared.file_trees.FileTree.{FileTree}
use Rattle.alg_parse.specs.Fitting.{ToldFits}
use Rattle.alg_parse.specs.FileTrees.{IsCommandIn}
use Rattle.alg_parse.specs.Told.{Told, declares, goal, faulty, Call}
use Rattle.alg_goals.specs.Goals.{IsDeclarableIn}
use Rattle.alg_steps.specs.Calling.{call_in, IsProcIn}

abbrev pub calls_in : List Tree → List Proc → List Call
calls_in ts ps = map (call_in ts) ps

abbrev pub told_seen : List Tree → Command → Told
told_seen ts command.Declares = declares
told_seen ts (command.Goal label line prefix local stmt script) = goal label line prefix (declarations_of ts local) (statement_of ts stmt) (calls_in ts script)
told_seen ts (command.Fault line cause) = faulty line cause

abbrev pub seen_of : FileTree → List Told
seen_of f = map (told_seen f.arena) f.commands

-- the expressions of a goal's script are of the arena
abbrev pub IsScriptIn : List Tree → Command → Type 0
IsScriptIn ts command.Declares = ⊤
IsScriptIn ts (command.Goal label line prefix local stmt script) = All (IsProcIn ts) script
IsScriptIn ts (command.Fault line cause) = ⊤

-- a goal over declarations that can be written, with a script that fits it
pub record MayRun (ts : List Tree) (shared : List Declaration) (c : Command) : Type 0 where
  pub within : IsCommandIn ts shared c
  pub declarable : IsDeclarableIn ts shared c
  pub script : IsScriptIn ts c
  pub fits : ToldFits shared (told_seen ts c)
