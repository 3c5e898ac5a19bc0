-- What is read of the items of a command.
use Rattle.std.specs.Prelude.{◌≡◌, List, [], ◌∷◌, Some, None, Result, Ok, Err}
use Rattle.alg_lex.specs.Items.{Item}
use Rattle.alg_syntax.specs.declared.commands.Command.{Command}
use Rattle.alg_syntax.specs.declared.commands.Unread.TheVariants as unread
use Rattle.alg_syntax.specs.Answers.{Answers}
use Rattle.alg_commands.specs.declared.readings.Unreadable.{Unreadable}
use Rattle.alg_commands.specs.declared.readings.Unreadable.TheVariants.{Fault, TooDeep, Syntax}
use Rattle.alg_commands.specs.declared.readings.Reading.{Reading}
use Rattle.alg_commands.specs.Items.{line_of, first_fault, signs_of}

-- The command, or its first cause: a fault comes before too deep, and that before syntax.
abbrev pub IsOutcome : List Item → Result Command Unreadable → Type 0
IsOutcome items (Ok command) = (first_fault items ≡ None) × Answers (signs_of items) (Ok command)
IsOutcome items (Err (Fault cause)) = first_fault items ≡ Some cause
IsOutcome items (Err TooDeep) = (first_fault items ≡ None) × Answers (signs_of items) (Err unread.TooDeep)
IsOutcome items (Err Syntax) = (first_fault items ≡ None) × Answers (signs_of items) (Err unread.Syntax)

pub record IsReading (items : List Item) (r : Reading) : Type 0 where
  pub line : r.line ≡ line_of items
  pub outcome : IsOutcome items r.command

-- The first of the commands was read, and these are left.
abbrev pub Gives : (commands : List (List Item)) → Reading → (left : List (List Item)) → Type 0
Gives [] r left = ⊥
Gives (items ∷ more) r left = IsReading items r × (left ≡ more)
