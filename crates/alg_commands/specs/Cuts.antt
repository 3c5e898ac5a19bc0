-- What it is to cut a file into commands.
use Rattle.std.specs.Prelude.{◌≡◌, List, [], ◌∷◌, ◌++◌, true, false}
use Rattle.alg_lex.specs.Items.{Item}
use Rattle.alg_commands.specs.Cutting.{begins, is_begun}

-- none of the items is a word that begins a command
abbrev pub NoneBegins : List Item → Type 0
NoneBegins [] = Unit {0}
NoneBegins (item ∷ items) = (begins item ≡ false) × NoneBegins items

-- one command: such a word is at most its first item
abbrev pub IsOne : List Item → Type 0
IsOne [] = ⊥
IsOne (item ∷ items) = NoneBegins items

-- commands that have such a word each
abbrev pub AreBegun : List (List Item) → Type 0
AreBegun [] = Unit {0}
AreBegun (command ∷ more) = (is_begun command ≡ true) × IsOne command × AreBegun more

abbrev pub joined : List (List Item) → List Item
joined [] = []
joined (command ∷ more) = command ++ joined more

-- the first command may have no such word, and the others have one each
abbrev pub AreCommands : List (List Item) → Type 0
AreCommands [] = Unit {0}
AreCommands (first ∷ more) = IsOne first × AreBegun more

-- The items are those of the commands, one command behind the other.
pub record IsCut (items : List Item) (commands : List (List Item)) : Type 0 where
  pub all : items ≡ joined commands
  pub each : AreCommands commands
