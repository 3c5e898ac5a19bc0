-- The goals of a file, which are numbered from 1.
use Rattle.std.specs.Prelude.{ℕ, List, [], ◌∷◌, ◌++◌, take, Option, None, nat_lt, if◌then◌else◌}
use Rattle.std.specs.List.{flat_map}
use Rattle.alg_terms.specs.Tree.{Tree, Statement}
use Rattle.alg_expr.specs.Ids.{statement_of}
use Rattle.alg_law.specs.Declarations.{Declaration, declarations_of}
use Rattle.alg_proof.specs.Causes.{line_at}
use Rattle.alg_parse.specs.Told as told
use Rattle.alg_parse.specs.Told.{Told}
use Rattle.alg_parse.specs.declared.file_trees.Command.{Command}
use Rattle.alg_parse.specs.declared.file_trees.Command.TheVariants as command
use Rattle.alg_parse.specs.declared.file_trees.FileTree.{FileTree}

-- a goal with its label and all declarations that are in force there
pub record Goal : Type 0 where
  pub label : List ℕ
  pub declarations : List Declaration
  pub statement : Statement

abbrev pub goals_told : List Declaration → Told → List Goal
goals_told shared told.declares = []
goals_told shared (told.goal label line prefix local statement calls) = record { label = label; declarations = take prefix shared ++ local; statement = statement } ∷ []
goals_told shared (told.faulty line cause) = []

-- the goals of a file whose commands tell this
abbrev pub goals_of : List Declaration → List Told → List Goal
goals_of shared ts = flat_map (goals_told shared) ts

abbrev pub goals_in : List Tree → List Declaration → Command → List Goal
goals_in ts shared command.Declares = []
goals_in ts shared (command.Goal label line prefix local stmt script) =
    record { label = label; declarations = take prefix shared ++ declarations_of ts local; statement = statement_of ts stmt } ∷ []
goals_in ts shared (command.Fault line cause) = []

-- the goals of a file that was read
abbrev pub goals_seen : FileTree → List Goal
goals_seen f = flat_map (goals_in f.arena f.shared) f.commands

-- the goal of an entry, which has to stand behind that of the entry before it
abbrev pub goal_for : List Goal → (before number : ℕ) → Option Goal
goal_for gs before number = if nat_lt before number then line_at gs number else None
