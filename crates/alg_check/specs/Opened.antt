-- A goal of the code, over the trees of its file.
use Rattle.std.specs.Prelude.{◌++◌, take}
use Rattle.alg_expr.specs.Ids.{statement_of}
use Rattle.alg_law.specs.Declarations.{declarations_of}
use Rattle.alg_parse.specs.declared.file_trees.FileTree.{FileTree}
use Rattle.alg_parse.specs.FileTrees.{IsGoalIn}
use Rattle.alg_check.specs.Goals as spec
use Rattle.alg_check.specs.declared.goals.Goal.{Goal}

abbrev pub goal_seen : FileTree → Goal → spec.Goal
goal_seen f g = record { label = g.label.now; declarations = take g.prefix f.shared ++ declarations_of f.arena g.local.now; statement = statement_of f.arena g.stmt }

abbrev pub IsOpenGoal : FileTree → Goal → Type 0
IsOpenGoal f g = IsGoalIn f.arena f.shared g.prefix g.local.now g.stmt
