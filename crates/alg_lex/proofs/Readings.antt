-- The items of a text are what it reads as.
use Rattle.std.proofs.Common.{◌≡◌, ℕ, zero, suc, ◌≤◌, ◌^◌, List, [], ◌∷◌, length, take, drop, Bool, true, false, ◌||◌, Option, Some, None, refl, arith, length-drop, cond}
use Rattle.std.specs.Prelude.{nat_lt}
use Rattle.std.specs.Str.Parse.{digits_value}
use Rattle.std.proofs.lemmas.Bool.{cond_both, ltb-true, ltb-false}
use Rattle.alg_lex.specs.declared.Kind.TheVariants.{Literal, Name, Word, Mark}
use Rattle.alg_lex.specs.declared.LexFault.TheVariants.{LiteralTooWide}
use Rattle.alg_lex.specs.declared.scan.Piece.{Piece}
use Rattle.alg_lex.specs.declared.scan.Piece.TheVariants.{Gap, Number, Identifier, Sign}
use Rattle.alg_lex.specs.Characters.{is_blank, begins}
use Rattle.alg_lex.specs.Longest.{longest, IsLongest}
use Rattle.alg_lex.specs.Tokens.{is_literal, is_name, is_word, is_mark, is_token}
use Rattle.alg_lex.specs.Comments.{line_len, comment_len}
use Rattle.alg_lex.specs.Items.{Place, Item, token, fault, piece, token_piece, comment_piece, item_at, before, items, items_from, behind}
use Rattle.alg_lex.specs.Reading.{blank, line_comment, nested_comment, BeginsNoGap, IsTokenHere, bytes, Reads, at_end, at_gap, at_token, at_wide_literal, at_bad_char, at_open_comment}
use Rattle.alg_lex.proofs.LongestFronts.{longest_is}
use Rattle.alg_lex.proofs.Pieces.{piece_some}

-- what a piece that was found gives, where what stands behind it reads as `rest` says
abbrev pub Gives : (p : Place) (text : List ℕ) (rest : Place → List Item) → Piece × ℕ → Type 0
Gives p text rest found = Reads p text (before (item_at found.0 (bytes found.1 text) p) (behind p (bytes found.1 text)) rest)

-- a piece of n characters gives a literal
literal_gives : (p : Place) (text : List ℕ) (n : ℕ) (rest : Place → List Item) → IsTokenHere text n → is_literal (take n text) ≡ true → ((q : Place) → Reads q (drop n text) (rest q)) → Gives p text rest (Number, n)
literal_gives p text n rest h e more = by (nat_lt (digits_value 10 (bytes n text)) (2 ^ 127)) refl
  where
    by : (b : Bool) → nat_lt (digits_value 10 (bytes n text)) (2 ^ 127) ≡ b → Reads p text (before (Some (cond b (token (Literal (digits_value 10 (bytes n text))) (bytes n text) p) (fault (LiteralTooWide p.line)))) (behind p (bytes n text)) rest)
    by true k = at_token p text n (Literal (digits_value 10 (bytes n text))) _ h (e, refl, ltb-true _ _ k) (more _)
    by false k = at_wide_literal p text n _ h e (ltb-false (digits_value 10 (bytes n text)) (2 ^ 127) k) (more _)

name_gives : (p : Place) (text : List ℕ) (n : ℕ) (rest : Place → List Item) → IsTokenHere text n → is_name (take n text) ≡ true → ((q : Place) → Reads q (drop n text) (rest q)) → Gives p text rest (Identifier, n)
name_gives p text n rest h e more = by (is_word (bytes n text)) refl
  where
    by : (b : Bool) → is_word (bytes n text) ≡ b → Reads p text (before (Some (token (cond b Word Name) (bytes n text) p)) (behind p (bytes n text)) rest)
    by true k = at_token p text n Word _ h (e, k) (more _)
    by false k = at_token p text n Name _ h (e, k) (more _)

mark_gives : (p : Place) (text : List ℕ) (n : ℕ) (rest : Place → List Item) → IsTokenHere text n → is_mark (take n text) ≡ true → ((q : Place) → Reads q (drop n text) (rest q)) → Gives p text rest (Sign, n)
mark_gives p text n rest h e more = at_token p text n Mark _ h e (more _)

-- by the form of the token's text
form_gives : (p : Place) (text : List ℕ) (n : ℕ) (rest : Place → List Item) → IsTokenHere text n → ((q : Place) → Reads q (drop n text) (rest q)) → (literal name : Bool) → is_literal (take n text) ≡ literal → is_name (take n text) ≡ name → (literal || (name || is_mark (take n text))) ≡ true → Gives p text rest (cond literal Number (cond name Identifier Sign), n)
form_gives p text n rest h more true name e f t = literal_gives p text n rest h e more
form_gives p text n rest h more false true e f t = name_gives p text n rest h f more
form_gives p text n rest h more false false e f t = mark_gives p text n rest h t more

token_gives : (p : Place) (c : ℕ) (cs : List ℕ) (rest : Place → List Item) → BeginsNoGap (c ∷ cs) → (n : ℕ) → IsLongest is_token (c ∷ cs) n → ((q : Place) → Reads q (drop (token_piece n (c ∷ cs)).1 (c ∷ cs)) (rest q)) → Gives p (c ∷ cs) rest (token_piece n (c ∷ cs))
token_gives p c cs rest none zero h more = at_bad_char p c cs _ none h (more _)
token_gives p c cs rest none (suc n) h more =
    form_gives p (c ∷ cs) (suc n) rest (record { begins_no_gap = none; some = omega arith; longest = h }) more _ _ refl refl (h.passes (omega arith))

comment_gives : (p : Place) (text : List ℕ) (rest : Place → List Item) → begins 47 45 text ≡ true → (o : Option ℕ) → comment_len 0 text ≡ o → ((q : Place) → Reads q (drop (comment_piece o text).1 text) (rest q)) → Gives p text rest (comment_piece o text)
comment_gives p text rest b (Some n) e more = at_gap p text n _ (nested_comment text n b e) (more _)
comment_gives p text rest b None e more = at_open_comment p text _ b e (more _)

-- what stands at the front gives what it reads as
piece_gives : (p : Place) (c : ℕ) (cs : List ℕ) (rest : Place → List Item) → ((q : Place) → Reads q (drop (piece (c ∷ cs)).1 (c ∷ cs)) (rest q)) → Gives p (c ∷ cs) rest (piece (c ∷ cs))
piece_gives p c cs rest =
    let text : List ℕ = c ∷ cs in
    let P : Piece × ℕ → Type 0 = λ found. ((q : Place) → Reads q (drop found.1 text) (rest q)) → Gives p text rest found in
    cond_both (is_blank c) (Gap, 1) _ P (λ b more. at_gap p text 1 _ (blank c cs b) (more _))
    (λ no_blank. cond_both (begins 45 45 text) (Gap, line_len text) _ P (λ b more. at_gap p text (line_len text) _ (line_comment text b) (more _))
    (λ no_line. cond_both (begins 47 45 text) (comment_piece (comment_len 0 text) text) (token_piece (longest is_token text) text) P
    (λ b. comment_gives p text rest b (comment_len 0 text) refl)
    (λ no_comment. token_gives p c cs rest (record { no_blank = no_blank; no_line_comment = no_line; no_nested_comment = no_comment }) (longest is_token text) (longest_is is_token text))))

items_read : (n : ℕ) (p : Place) (text : List ℕ) → length text ≤ n → Reads p text (items n p text)
unfolding items
items_read zero p [] e = at_end p
items_read zero p (c ∷ cs) e = absurd (omega arith)
items_read (suc n) p [] e = at_end p
items_read (suc n) p (c ∷ cs) e =
    let k = piece_some c cs in
    let l = length-drop (piece (c ∷ cs)).1 (c ∷ cs) in
    piece_gives p c cs (λ q. items n q (drop (piece (c ∷ cs)).1 (c ∷ cs))) (λ q. items_read n q (drop (piece (c ∷ cs)).1 (c ∷ cs)) (omega arith))

pub items_from-reads : (p : Place) (text : List ℕ) → Reads p text (items_from p text)
items_from-reads p text = items_read (length text) p text (omega arith)
