-- The tokens and faults of a text, in order.
use Rattle.std.specs.Prelude.{ℕ, zero, suc, ◌+◌, ◌^◌, ◌==◌, ◌||◌, nat_lt, List, [], ◌∷◌, length, take, drop, Bool, false, Option, Some, None, if◌then◌else◌, count_by}
use Rattle.std.specs.Str.{encode_utf8_all}
use Rattle.std.specs.Str.Parse.{digits_value}
use Rattle.alg_lex.specs.declared.Kind.{Kind}
use Rattle.alg_lex.specs.declared.Kind.TheVariants.{Literal, Name, Word, Mark}
use Rattle.alg_lex.specs.declared.LexFault.{LexFault}
use Rattle.alg_lex.specs.declared.LexFault.TheVariants.{BadChar, OpenComment, LiteralTooWide}
use Rattle.alg_lex.specs.declared.scan.Piece.{Piece}
use Rattle.alg_lex.specs.declared.scan.Piece.TheVariants.{Gap, Number, Identifier, Sign, Stray, Unclosed}
use Rattle.alg_lex.specs.Characters.{is_blank, first, begins}
use Rattle.alg_lex.specs.Longest.{longest}
use Rattle.alg_lex.specs.Tokens.{is_literal, is_name, is_word, is_token}
use Rattle.alg_lex.specs.Comments.{line_len, comment_len}

-- where something stands: its offset in bytes, its line, and whether a line feed stands between it and the token before
pub record Place : Type 0 where
  pub at : ℕ
  pub line : ℕ
  pub fresh : Bool

pub data Item : Type 0 where
  token : Kind → (text : List ℕ) → Place → Item
  fault : LexFault → Item

-- the beginning of a file
abbrev pub beginning : Place
beginning = record { at = 0; line = 1; fresh = false }

abbrev pub line_feeds : List ℕ → ℕ
line_feeds bytes = count_by (λ b. b == 10) bytes

-- the place behind these bytes
abbrev pub behind : Place → List ℕ → Place
behind p bytes = record { at = p.at + length bytes; line = p.line + line_feeds bytes; fresh = p.fresh || nat_lt 0 (line_feeds bytes) }

-- the form of a token's text
abbrev pub token_form : List ℕ → Piece
token_form text = if is_literal text then Number else (if is_name text then Identifier else Sign)

abbrev pub token_piece : ℕ → List ℕ → Piece × ℕ
token_piece zero text = (Stray, 1)
token_piece (suc n) text = (token_form (take (suc n) text), suc n)

abbrev pub comment_piece : Option ℕ → List ℕ → Piece × ℕ
comment_piece (Some n) text = (Gap, n)
comment_piece None text = (Unclosed, length text)

-- What stands at the front of a text that isn't empty, and how many characters it has:
-- a blank, a comment, the longest token, or a character that begins none of them.
abbrev pub piece : List ℕ → Piece × ℕ
piece text =
    if is_blank (first text) then (Gap, 1)
    else (if begins 45 45 text then (Gap, line_len text)
    else (if begins 47 45 text then comment_piece (comment_len 0 text) text
    else token_piece (longest is_token text) text))

-- a literal's value is below 2 ^ 127
abbrev pub literal_item : ℕ → List ℕ → Place → Item
literal_item value text p = if nat_lt value (2 ^ 127) then token (Literal value) text p else fault (LiteralTooWide p.line)

abbrev pub name_kind : List ℕ → Kind
name_kind text = if is_word text then Word else Name

-- what a piece with these bytes gives, if it is no blank and no comment
abbrev pub item_at : Piece → List ℕ → Place → Option Item
item_at Gap text p = None
item_at Number text p = Some (literal_item (digits_value 10 text) text p)
item_at Identifier text p = Some (token (name_kind text) text p)
item_at Sign text p = Some (token Mark text p)
item_at Stray text p = Some (fault (BadChar p.line))
item_at Unclosed text p = Some (fault (OpenComment p.line))

-- The item, if there is one, before those from the place behind it. Behind a token no line feed has been passed.
abbrev pub before : Option Item → Place → (Place → List Item) → List Item
before None p rest = rest p
before (Some (token kind text here)) p rest = token kind text here ∷ rest (record p { fresh = false })
before (Some (fault cause)) p rest = fault cause ∷ rest p

-- The items of a text of at most so many characters that begins at this place.
unfoldable pub items : ℕ → Place → List ℕ → List Item
items zero p text = []
items (suc n) p [] = []
items (suc n) p (c ∷ cs) =
    let found = piece (c ∷ cs) in
    let text = encode_utf8_all (take found.1 (c ∷ cs)) in
    before (item_at found.0 text p) (behind p text) (λ q. items n q (drop found.1 (c ∷ cs)))

abbrev pub items_from : Place → List ℕ → List Item
items_from p text = items (length text) p text
