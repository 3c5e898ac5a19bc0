-- Files that were read, and their goals.
use Rattle.std.specs.Prelude.{ℕ, ⊤, List, ◌++◌, take, Contains}
use Rattle.std.specs.Str.{IsUtf8}
use Rattle.alg_terms.specs.Tree.{Tree}
use Rattle.alg_expr.specs.declared.ids.Stmt.{Stmt}
use Rattle.alg_law.specs.declared.declarations.Declared.{Declared}
use Rattle.alg_law.specs.Declarations.{Declaration, declarations_of}
use Rattle.alg_parse.specs.declared.procedures.Proc.{Proc}
use Rattle.alg_parse.specs.declared.file_trees.Command.{Command}
use Rattle.alg_parse.specs.declared.file_trees.Command.TheVariants as command
use Rattle.alg_parse.specs.declared.file_trees.FileTree.{FileTree}
use Rattle.alg_parse.specs.FileTrees.{IsRead}
use Rattle.alg_show.specs.ReadingBack.{AreDeclarable}

-- some text was read so
pub record WasRead (f : FileTree) : Type 0 where
  pub text : List ℕ
  pub utf8 : IsUtf8 text
  pub read : IsRead text f

-- one of the file's goals has so many shared declarations in force, these of its own, and this statement
pub record IsGoalOf (f : FileTree) (prefix : ℕ) (local : List Declared) (stmt : Stmt) : Type 0 where
  pub label : List ℕ
  pub line : ℕ
  pub script : List Proc
  pub among : Contains f.commands (command.Goal label line prefix local stmt script)

abbrev pub HasGoal : FileTree → (prefix : ℕ) → (local : List Declared) → Type 0
HasGoal f prefix local = (stmt : Stmt) × IsGoalOf f prefix local stmt

-- the declarations that are in force for such a goal
abbrev pub base_in : FileTree → (prefix : ℕ) → (local : List Declared) → List Declaration
base_in f prefix local = take prefix f.shared ++ declarations_of f.arena local

-- what is in force for a goal can be written as binders of a file, one after another
abbrev pub IsDeclarableIn : List Tree → List Declaration → Command → Type 0
IsDeclarableIn ts shared command.Declares = ⊤
IsDeclarableIn ts shared (command.Goal label line prefix local stmt script) = AreDeclarable (take prefix shared ++ declarations_of ts local)
IsDeclarableIn ts shared (command.Fault line cause) = ⊤
