-- What the lexer takes for a name is a name of the notation, in each command of a file.
use Rattle.std.proofs.Common.{◌≡◌, ℕ, zero, suc, ◌^◌, List, [], ◌∷◌, length, take, drop, Bool, true, false, ◌&&◌, Option, Some, None, refl, ap, ◌∙◌, cond}
use Rattle.std.specs.Prelude.{⊤, nat_lt}
use Rattle.std.specs.Str.{chars, encode_utf8_all, IsUtf8}
use Rattle.std.specs.Str.Parse.{digits_value}
use Rattle.std.proofs.Math.Utf8.{scalar, scalars}
use Rattle.std.proofs.lemmas.Bool.{and_parts, cond_both}
use Rattle.std.proofs.lemmas.Str.{chars-encodes, scalars-chars}
use Rattle.alg_lex.specs.declared.Kind.TheVariants.{Literal, Name, Word, Mark}
use Rattle.alg_lex.specs.declared.LexFault.TheVariants.{LiteralTooWide}
use Rattle.alg_lex.specs.declared.scan.Piece.{Piece}
use Rattle.alg_lex.specs.declared.scan.Piece.TheVariants.{Gap, Number, Identifier, Sign}
use Rattle.alg_lex.specs.Characters.{is_blank, first, begins}
use Rattle.alg_lex.specs.Longest.{longest}
use Rattle.alg_lex.specs.Tokens.{is_literal, is_name, is_word, is_token}
use Rattle.alg_lex.specs.Comments.{line_len, comment_len}
use Rattle.alg_lex.specs.Items.{Place, Item, token, fault, name_kind, token_piece, comment_piece, piece, item_at, before, behind, items, items_from, beginning}
use Rattle.alg_commands.specs.Cutting.{is_begun, ahead_of, commands_of}
use Rattle.alg_show.specs.ReadingBack.{IsNamed}

abbrev pub IsNamedItem : Item → Type 0
IsNamedItem (token (Literal value) text p) = ⊤
IsNamedItem (token Name text p) = IsNamed text
IsNamedItem (token Word text p) = ⊤
IsNamedItem (token Mark text p) = ⊤
IsNamedItem (fault cause) = ⊤

abbrev pub AllNamed : List Item → Type 0
AllNamed [] = ⊤
AllNamed (item ∷ items) = IsNamedItem item × AllNamed items

abbrev pub CommandsNamed : List (List Item) → Type 0
CommandsNamed [] = ⊤
CommandsNamed (items ∷ commands) = AllNamed items × CommandsNamed commands

abbrev IsNamedIf : Option Item → Type 0
IsNamedIf None = ⊤
IsNamedIf (Some item) = IsNamedItem item

scalars-take : (n : ℕ) (cs : List ℕ) → scalars cs ≡ true → scalars (take n cs) ≡ true
scalars-take zero cs s = refl
scalars-take (suc n) [] s = refl
scalars-take (suc n) (c ∷ cs) s =
    let both = and_parts (scalar c) (scalars cs) s in
    ap (λ b. b && scalars (take n cs)) both.0 ∙ scalars-take n cs both.1

scalars-drop : (n : ℕ) (cs : List ℕ) → scalars cs ≡ true → scalars (drop n cs) ≡ true
scalars-drop zero cs s = s
scalars-drop (suc n) [] s = refl
scalars-drop (suc n) (c ∷ cs) s = scalars-drop n cs (and_parts (scalar c) (scalars cs) s).1

-- a piece that was found gives no name but names of the notation
abbrev Gives : List ℕ → Piece × ℕ → Type 0
Gives text found = (p : Place) → IsNamedIf (item_at found.0 (encode_utf8_all (take found.1 text)) p)

literal_named : (b : Bool) (value : ℕ) (text : List ℕ) (p : Place) → IsNamedItem (cond b (token (Literal value) text p) (fault (LiteralTooWide p.line)))
literal_named true value text p = tt
literal_named false value text p = tt

name_named : (front : List ℕ) (p : Place) → scalars front ≡ true → is_name front ≡ true → IsNamedItem (token (name_kind (encode_utf8_all front)) (encode_utf8_all front) p)
name_named front p s e = by (is_word (encode_utf8_all front)) refl
  where
    by : (b : Bool) → is_word (encode_utf8_all front) ≡ b → IsNamedItem (token (cond b Word Name) (encode_utf8_all front) p)
    by true k = tt
    by false k = record { utf8 = (front, (s, refl)); name = ap is_name (chars-encodes front s) ∙ e; free = k }

form_named : (front : List ℕ) (p : Place) → scalars front ≡ true → (literal name : Bool) → is_name front ≡ name → IsNamedIf (item_at (cond literal Number (cond name Identifier Sign)) (encode_utf8_all front) p)
form_named front p s true name e = literal_named (nat_lt (digits_value 10 (encode_utf8_all front)) (2 ^ 127)) (digits_value 10 (encode_utf8_all front)) (encode_utf8_all front) p
form_named front p s false true e = name_named front p s e
form_named front p s false false e = tt

token_named : (n : ℕ) (text : List ℕ) → scalars text ≡ true → Gives text (token_piece n text)
token_named zero text s p = tt
token_named (suc n) text s p = form_named (take (suc n) text) p (scalars-take (suc n) text s) (is_literal (take (suc n) text)) (is_name (take (suc n) text)) refl

comment_named : (o : Option ℕ) (text : List ℕ) → Gives text (comment_piece o text)
comment_named (Some n) text p = tt
comment_named None text p = tt

piece_named : (text : List ℕ) → scalars text ≡ true → Gives text (piece text)
piece_named text s =
    cond_both (is_blank (first text)) (Gap, 1) _ (Gives text) (λ b p. tt)
    (λ no_blank. cond_both (begins 45 45 text) (Gap, line_len text) _ (Gives text) (λ b p. tt)
    (λ no_line. cond_both (begins 47 45 text) (comment_piece (comment_len 0 text) text) (token_piece (longest is_token text) text) (Gives text)
    (λ b. comment_named (comment_len 0 text) text)
    (λ no_comment. token_named (longest is_token text) text s)))

before_named : (o : Option Item) (p : Place) (rest : Place → List Item) → IsNamedIf o → ((q : Place) → AllNamed (rest q)) → AllNamed (before o p rest)
before_named None p rest h more = more p
before_named (Some (token kind text here)) p rest h more = (h, more (record p { fresh = false }))
before_named (Some (fault cause)) p rest h more = (h, more p)

items_named : (n : ℕ) (p : Place) (text : List ℕ) → scalars text ≡ true → AllNamed (items n p text)
unfolding items
items_named zero p text s = tt
items_named (suc n) p [] s = tt
items_named (suc n) p (c ∷ cs) s =
    let found = piece (c ∷ cs) in
    let text = encode_utf8_all (take found.1 (c ∷ cs)) in
    before_named (item_at found.0 text p) (behind p text) (λ q. items n q (drop found.1 (c ∷ cs))) (piece_named (c ∷ cs) s p)
    (λ q. items_named n q (drop found.1 (c ∷ cs)) (scalars-drop found.1 (c ∷ cs) s))

ahead_named : (item : Item) (commands : List (List Item)) → IsNamedItem item → CommandsNamed commands → CommandsNamed (ahead_of item commands)
ahead_named item [] h all = ((h, tt), tt)
ahead_named item (items ∷ more) h all = by (is_begun items)
  where
    by : (b : Bool) → CommandsNamed (cond b ((item ∷ []) ∷ (items ∷ more)) ((item ∷ items) ∷ more))
    by true = ((h, tt), all)
    by false = ((h, all.0), all.1)

commands_named : (items : List Item) → AllNamed items → CommandsNamed (commands_of items)
commands_named [] h = tt
commands_named (item ∷ items) h = ahead_named item (commands_of items) h.0 (commands_named items h.1)

-- the commands of a text
pub text_named : (text : List ℕ) → IsUtf8 text → CommandsNamed (commands_of (items_from beginning (chars text)))
text_named text u = commands_named (items_from beginning (chars text)) (items_named (length (chars text)) beginning (chars text) (scalars-chars text u))
