-- What it is to read a text: its tokens and faults, by what stands at each place.
use Rattle.std.specs.Prelude.{◌≡◌, ℕ, ◌^◌, ◌<◌, ◌≤◌, List, [], ◌∷◌, length, take, drop, true, false, Some, None}
use Rattle.std.specs.Str.{encode_utf8_all}
use Rattle.std.specs.Str.Parse.{digits_value}
use Rattle.alg_lex.specs.declared.Kind.{Kind}
use Rattle.alg_lex.specs.declared.Kind.TheVariants.{Literal, Name, Word, Mark}
use Rattle.alg_lex.specs.declared.LexFault.TheVariants.{BadChar, OpenComment, LiteralTooWide}
use Rattle.alg_lex.specs.Characters.{is_blank, first, begins}
use Rattle.alg_lex.specs.Longest.{IsLongest}
use Rattle.alg_lex.specs.Tokens.{is_literal, is_name, is_word, is_mark, is_token}
use Rattle.alg_lex.specs.Comments.{line_len, comment_len}
use Rattle.alg_lex.specs.Items.{Place, Item, token, fault, behind}

-- the first n characters are a blank or a comment
pub data IsGap : List ℕ → ℕ → Type 0 where
  blank : (c : ℕ) (cs : List ℕ) → is_blank c ≡ true → IsGap (c ∷ cs) 1
  line_comment : (text : List ℕ) → begins 45 45 text ≡ true → IsGap text (line_len text)
  nested_comment : (text : List ℕ) (n : ℕ) → begins 47 45 text ≡ true → comment_len 0 text ≡ Some n → IsGap text n

-- neither a blank nor a comment begins here
pub record BeginsNoGap (text : List ℕ) : Type 0 where
  pub no_blank : is_blank (first text) ≡ false
  pub no_line_comment : begins 45 45 text ≡ false
  pub no_nested_comment : begins 47 45 text ≡ false

-- The first n characters are a token, and no more of them are.
pub record IsTokenHere (text : List ℕ) (n : ℕ) : Type 0 where
  pub begins_no_gap : BeginsNoGap text
  pub some : 0 < n
  pub longest : IsLongest is_token text n

-- a token of these characters is of this kind
abbrev pub IsOfKind : Kind → List ℕ → Type 0
IsOfKind (Literal value) front = (is_literal front ≡ true) × (value ≡ digits_value 10 (encode_utf8_all front)) × (value < 2 ^ 127)
IsOfKind Name front = (is_name front ≡ true) × (is_word (encode_utf8_all front) ≡ false)
IsOfKind Word front = (is_name front ≡ true) × (is_word (encode_utf8_all front) ≡ true)
IsOfKind Mark front = is_mark front ≡ true

-- the bytes of the first n characters
abbrev pub bytes : ℕ → List ℕ → List ℕ
bytes n text = encode_utf8_all (take n text)

-- The items of a text that begins at the place.
pub data Reads : Place → List ℕ → List Item → Type 0 where
  at_end : (p : Place) → Reads p [] []
  at_gap : (p : Place) (text : List ℕ) (n : ℕ) (items : List Item) → IsGap text n
      → Reads (behind p (bytes n text)) (drop n text) items → Reads p text items
  at_token : (p : Place) (text : List ℕ) (n : ℕ) (kind : Kind) (items : List Item) → IsTokenHere text n → IsOfKind kind (take n text)
      → Reads (record (behind p (bytes n text)) { fresh = false }) (drop n text) items → Reads p text (token kind (bytes n text) p ∷ items)
  at_wide_literal : (p : Place) (text : List ℕ) (n : ℕ) (items : List Item) → IsTokenHere text n → is_literal (take n text) ≡ true → 2 ^ 127 ≤ digits_value 10 (bytes n text)
      → Reads (behind p (bytes n text)) (drop n text) items → Reads p text (fault (LiteralTooWide p.line) ∷ items)
  -- no front of the text is a token
  at_bad_char : (p : Place) (c : ℕ) (cs : List ℕ) (items : List Item) → BeginsNoGap (c ∷ cs) → IsLongest is_token (c ∷ cs) 0
      → Reads (behind p (bytes 1 (c ∷ cs))) cs items → Reads p (c ∷ cs) (fault (BadChar p.line) ∷ items)
  -- the rest of the text is passed over
  at_open_comment : (p : Place) (text : List ℕ) (items : List Item) → begins 47 45 text ≡ true → comment_len 0 text ≡ None
      → Reads (behind p (bytes (length text) text)) (drop (length text) text) items → Reads p text (fault (OpenComment p.line) ∷ items)
