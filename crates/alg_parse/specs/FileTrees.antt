-- A file as it was read: what it tells, over the trees of its arena.
use Rattle.std.specs.Prelude.{◌≡◌, ◌≤◌, ◌<◌, ◌+◌, ◌^◌, ℕ, List, [], ◌∷◌, ◌++◌, length, take, All, ⊤}
use Rattle.std.specs.Str.{chars}
use Rattle.alg_terms.specs.Tree.{Tree}
use Rattle.alg_expr.specs.Ids.{statement_of, IsStatementIn}
use Rattle.alg_expr.specs.declared.ids.Stmt.{Stmt}
use Rattle.alg_lex.specs.Items.{items_from, beginning}
use Rattle.alg_law.specs.declared.declarations.Declared.{Declared}
use Rattle.alg_law.specs.Combinations.{parts_of, IsStepIn}
use Rattle.alg_law.specs.Declarations.{Declaration, declarations_of, IsDeclaredIn}
use Rattle.alg_law.specs.Following.{AllMayFollow}
use Rattle.alg_law.specs.WellSorted.{IsStatement}
use Rattle.alg_commands.specs.Cutting.{commands_of}
use Rattle.alg_parse.specs.declared.procedures.Proc.{Proc}
use Rattle.alg_parse.specs.declared.procedures.Proc.TheVariants as proc
use Rattle.alg_parse.specs.declared.file_trees.Command.{Command}
use Rattle.alg_parse.specs.declared.file_trees.Command.TheVariants as command
use Rattle.alg_parse.specs.declared.file_trees.FileTree.{FileTree}
use Rattle.alg_parse.specs.Told.{Told, declares, goal, faulty, Call, plain, combination}
use Rattle.alg_parse.specs.Files.{Known, nothing, Tell}
use Rattle.alg_parse.specs.Fitting.{ToldFits}

-- a procedure of the code is this call
abbrev pub IsCall : List Tree → Proc → Call → Type 0
IsCall ts (proc.Named p) call = call ≡ plain p
IsCall ts (proc.LinearCombination c) call = All (IsStepIn ts) c.steps × (call ≡ combination (parts_of ts c))

abbrev pub AreCalls : List Tree → List Proc → List Call → Type 0
AreCalls ts [] [] = ⊤
AreCalls ts [] (c ∷ cs) = ⊥
AreCalls ts (p ∷ ps) [] = ⊥
AreCalls ts (p ∷ ps) (c ∷ cs) = IsCall ts p c × AreCalls ts ps cs

-- a command of the code tells this
abbrev pub IsTold : List Tree → Command → Told → Type 0
IsTold ts command.Declares t = t ≡ declares
IsTold ts (command.Goal label line prefix local stmt script) t =
    (calls : List Call) × AreCalls ts script calls × (t ≡ goal label line prefix (declarations_of ts local) (statement_of ts stmt) calls)
IsTold ts (command.Fault line cause) t = t ≡ faulty line cause

abbrev pub AreTold : List Tree → List Command → List Told → Type 0
AreTold ts [] [] = ⊤
AreTold ts [] (t ∷ told) = ⊥
AreTold ts (c ∷ cs) [] = ⊥
AreTold ts (c ∷ cs) (t ∷ told) = IsTold ts c t × AreTold ts cs told

-- a goal's base can be joined, and its statement is of the arena and well sorted over that base
pub record IsGoalIn (ts : List Tree) (shared : List Declaration) (prefix : ℕ) (local : List Declared) (stmt : Stmt) : Type 0 where
  pub within : prefix ≤ length shared
  pub room : prefix + length local < 2 ^ 32
  pub here : All (IsDeclaredIn ts) local
  pub fit : AllMayFollow (take prefix shared) (declarations_of ts local)
  pub statement : IsStatementIn ts stmt
  pub sorted : IsStatement (take prefix shared ++ declarations_of ts local) (statement_of ts stmt)

abbrev pub IsCommandIn : List Tree → List Declaration → Command → Type 0
IsCommandIn ts shared command.Declares = ⊤
IsCommandIn ts shared (command.Goal label line prefix local stmt script) = IsGoalIn ts shared prefix local stmt
IsCommandIn ts shared (command.Fault line cause) = ⊤

-- the text's commands tell this, in order
pub record Tells (text : List ℕ) (told : List Told) : Type 0 where
  pub end : Known
  pub tell : Tell nothing (commands_of (items_from beginning (chars text))) told end

-- the text was read so
pub record IsRead (text : List ℕ) (f : FileTree) : Type 0 where
  pub told : List Told
  pub tells : Tells text told
  pub commands_told : AreTold f.arena f.commands told
  pub shared : f.shared ≡ tells.end.shared
  pub each : All (IsCommandIn f.arena f.shared) f.commands
  pub fit : All (ToldFits f.shared) told
