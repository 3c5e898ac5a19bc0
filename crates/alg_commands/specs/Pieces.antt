-- What is kept of a command while it is passed.
use Rattle.std.specs.Prelude.{◌≡◌, List, ◌∷◌, Option, Some, None, take}
use Rattle.alg_lex.specs.declared.Token.{Token}
use Rattle.alg_lex.specs.Items.{Item}
use Rattle.alg_lex.specs.Answer.{seen}
use Rattle.alg_syntax.specs.Signs.{signs}
use Rattle.alg_commands.specs.declared.pieces.Piece.{Piece}
use Rattle.alg_commands.specs.Cutting.{commands_of}
use Rattle.alg_commands.specs.Items.{line_of, first_fault, signs_of}

-- the word that was passed already, before the items to come
abbrev pub with_word : Option Token → List Item → List Item
with_word None items = items
with_word (Some word) items = seen word ∷ items

-- One token more than a command may have is kept, and no more.
pub record Keeps (items : List Item) (p : Piece) : Type 0 where
  pub line : p.line ≡ line_of items
  pub fault : p.fault ≡ first_fault items
  pub tokens : signs p.tokens.items ≡ take 4097 (signs_of items)

-- The first command of all the items was passed.
pub record Passes (all : List Item) (p : Piece) (word : Option Token) (left : List Item) : Type 0 where
  pub items : List Item
  pub cut : commands_of all ≡ items ∷ commands_of (with_word word left)
  pub keeps : Keeps items p
