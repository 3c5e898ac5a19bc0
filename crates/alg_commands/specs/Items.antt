-- What the items of a command are together.
use Rattle.std.specs.Prelude.{ℕ, List, [], ◌∷◌, Option, Some, None}
use Rattle.alg_lex.specs.declared.LexFault.{LexFault}
use Rattle.alg_lex.specs.declared.LexFault.TheVariants.{BadChar, OpenComment, LiteralTooWide}
use Rattle.alg_lex.specs.Items.{Item, token, fault}
use Rattle.alg_syntax.specs.declared.signs.Sign.{Sign}
use Rattle.alg_syntax.specs.Signs.{sign_of}

abbrev pub line_of_fault : LexFault → ℕ
line_of_fault (BadChar line) = line
line_of_fault (OpenComment line) = line
line_of_fault (LiteralTooWide line) = line

abbrev pub line_of_item : Item → ℕ
line_of_item (token kind text p) = p.line
line_of_item (fault cause) = line_of_fault cause

-- the line of the first item
abbrev pub line_of : List Item → ℕ
line_of [] = 0
line_of (item ∷ items) = line_of_item item

abbrev pub first_fault : List Item → Option LexFault
first_fault [] = None
first_fault (token kind text p ∷ items) = first_fault items
first_fault (fault cause ∷ items) = Some cause

-- the tokens, as the grammar sees them
abbrev pub signs_of : List Item → List Sign
signs_of [] = []
signs_of (token kind text p ∷ items) = sign_of kind p.fresh text ∷ signs_of items
signs_of (fault cause ∷ items) = signs_of items
