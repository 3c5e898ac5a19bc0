-- What a reader within the limits answers.
use Rattle.std.specs.Prelude.{◌≡◌, List, true, false, Result, Ok, Err}
use Rattle.alg_syntax.specs.declared.signs.Sign.{Sign}
use Rattle.alg_syntax.specs.declared.commands.Command.{Command}
use Rattle.alg_syntax.specs.declared.commands.Unread.{Unread}
use Rattle.alg_syntax.specs.declared.commands.Unread.TheVariants.{TooDeep, Syntax}
use Rattle.alg_syntax.specs.Commands.{IsRead}
use Rattle.alg_syntax.specs.Limits.{too_deep}

-- What is too deep isn't read, whether or not it has a reading.
abbrev pub Answers : List Sign → Result Command Unread → Type 0
Answers ts (Ok c) = (too_deep ts ≡ false) × IsRead ts c
Answers ts (Err TooDeep) = too_deep ts ≡ true
Answers ts (Err Syntax) = (too_deep ts ≡ false) × ((c : Command) → IsRead ts c → ⊥)
