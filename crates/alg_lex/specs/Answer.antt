-- What the lexer's answers stand for.
use Rattle.std.specs.Prelude.{List, [], ◌∷◌, Option, Some, None, Result, Ok, Err}
use Rattle.alg_lex.specs.declared.Token.{Token}
use Rattle.alg_lex.specs.declared.LexFault.{LexFault}
use Rattle.alg_lex.specs.Items.{Item, token, fault}

abbrev pub seen : Token → Item
seen t = token t.kind t.text.now (record { at = t.at; line = t.line; fresh = t.after_newline })

-- the item that an answer is
abbrev pub item_of : Result Token LexFault → Item
item_of (Ok t) = seen t
item_of (Err cause) = fault cause

-- an answer, before what is to come after it
abbrev pub answered : Result (Option Token) LexFault → List Item → List Item
answered (Ok None) rest = []
answered (Ok (Some t)) rest = seen t ∷ rest
answered (Err cause) rest = fault cause ∷ rest
