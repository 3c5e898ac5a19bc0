-- What stands at the front of a text.
use Rattle.std.proofs.Common.{◌≡◌, ℕ, zero, suc, ◌+◌, ◌≤◌, ◌<◌, List, [], ◌∷◌, ◌++◌, length, take, drop, Bool, true, false, ◌&&◌, Option, Some, None, refl, sym, ap, subst, ◌∙◌, arith, cond, append_assoc, encode_utf8, length-append, ◌-◌}
use Rattle.std.proofs.Math.Seq.{drop-append_seam, take-append_seam}
use Rattle.std.specs.Prelude.{option_map, ◌==◌, nat_le, MatchOption}
use Rattle.std.specs.List.{list_all}
use Rattle.std.specs.Str.{chars, encode_utf8_all, IsUtf8, IsCharBoundary}
use Rattle.std.proofs.lemmas.Str.{chars-nil, encodes-chars, encode_ascii, IsUtf8-past_char, IsCharBoundary-at_seam, length-le-encodes}
use Rattle.std.proofs.lemmas.Bool.{cond-true, cond-false, cond_both, and_parts, eqb-true, leb-true}
use Rattle.alg_lex.specs.declared.scan.Piece.{Piece}
use Rattle.alg_lex.specs.declared.scan.Piece.TheVariants.{Gap, Number, Identifier, Sign, Stray, Unclosed}
use Rattle.alg_lex.specs.Characters.{is_blank, is_digit, begins, first}
use Rattle.alg_lex.specs.Longest.{longest}
use Rattle.alg_lex.specs.Tokens.{is_literal, is_name, is_mark, is_token}
use Rattle.alg_lex.specs.Comments.{line_len, comment_len}
use Rattle.alg_lex.specs.Items.{piece, comment_piece, token_piece}
use Rattle.alg_lex.specs.Scanning.{Leaves, LeavesIf, Cuts, scanned, marked}
use Rattle.alg_lex.proofs.LongestTokens.{token_scanned, more, ended_mark}

cuts_same : (f g : Piece × ℕ) (text : List ℕ) (kind : Piece) (rest : List ℕ) → f ≡ g → Cuts g text kind rest → Cuts f text kind rest
cuts_same f g text kind rest e h = subst (λ (x : Piece × ℕ). Cuts x text kind rest) (sym e) h

leaves_none : (text : List ℕ) → Leaves 0 text text
leaves_none text = record { front = []; size = refl; bytes = refl; characters = refl }

-- one character more
leaves_more : (n : ℕ) (text left rest : List ℕ) (c : ℕ) → text ≡ encode_utf8 c ++ left → chars text ≡ c ∷ chars left → Leaves n left rest → Leaves (suc n) text rest
leaves_more n text left rest c b k h = record {
  front = c ∷ h.front;
  size = ap suc h.size;
  bytes = b ∙ (ap (λ x. encode_utf8 c ++ x) h.bytes ∙ simp append_assoc);
  characters = k ∙ ap (λ x. c ∷ x) h.characters;
}

-- ---- marks

pub cuts_pair : (c d : ℕ) (text rest : List ℕ) → chars text ≡ d ∷ chars rest → text ≡ encode_utf8 d ++ rest → is_mark (c ∷ d ∷ []) ≡ true → Cuts (marked c (chars text)) text Sign rest
cuts_pair c d text rest k b e =
    cuts_same _ (Sign, 1) text Sign rest (ap (marked c) k ∙ cond-true _ _ _ e)
    (record { piece = refl; leaves = leaves_more 0 text rest rest d b k (leaves_none rest) })

single : (c : ℕ) (text : List ℕ) (kind : Piece) → marked c (chars text) ≡ (kind, 0) → Cuts (marked c (chars text)) text kind text
single c text kind e = cuts_same _ (kind, 0) text kind text e (record { piece = refl; leaves = leaves_none text })

pub marked_single : (c : ℕ) (cs : List ℕ) → is_mark (c ∷ first cs ∷ []) ≡ false → is_mark (c ∷ []) ≡ true → marked c cs ≡ (Sign, 0)
marked_single c cs e f = cond-false _ _ _ e ∙ cond-true _ _ _ f

pub marked_none : (c : ℕ) (cs : List ℕ) → is_mark (c ∷ first cs ∷ []) ≡ false → is_mark (c ∷ []) ≡ false → marked c cs ≡ (Stray, 0)
marked_none c cs e f = cond-false _ _ _ e ∙ cond-false _ _ _ f

-- the next character, if there is one, makes no mark with this one
pub cuts_single : (c : ℕ) (text : List ℕ) → is_mark (c ∷ first (chars text) ∷ []) ≡ false → is_mark (c ∷ []) ≡ true → Cuts (marked c (chars text)) text Sign text
cuts_single c text e f = single c text Sign (marked_single c (chars text) e f)

pub cuts_stray : (c : ℕ) (text : List ℕ) → is_mark (c ∷ first (chars text) ∷ []) ≡ false → is_mark (c ∷ []) ≡ false → Cuts (marked c (chars text)) text Stray text
cuts_stray c text e f = single c text Stray (marked_none c (chars text) e f)

pub no_pair_at_end : (c : ℕ) (text : List ℕ) → chars text ≡ [] → is_mark (c ∷ first (chars text) ∷ []) ≡ false
no_pair_at_end c text e = ap (λ x. is_mark (c ∷ first x ∷ [])) e ∙ ended_mark c

pub no_pair : (c d : ℕ) (text rest : List ℕ) → chars text ≡ d ∷ rest → is_mark (c ∷ d ∷ []) ≡ false → is_mark (c ∷ first (chars text) ∷ []) ≡ false
no_pair c d text rest e f = ap (λ x. is_mark (c ∷ first x ∷ [])) e ∙ f

-- ---- pieces

pub cuts_blank : (text rest : List ℕ) (c : ℕ) → chars text ≡ c ∷ chars rest → text ≡ encode_utf8 c ++ rest → is_blank c ≡ true → Cuts (piece (chars text)) text Gap rest
cuts_blank text rest c k b e =
    cuts_same _ (Gap, 1) text Gap rest (ap piece k ∙ cond-true _ _ _ e)
    (record { piece = refl; leaves = leaves_more 0 text rest rest c b k (leaves_none rest) })

not_blank : (text cs : List ℕ) (c : ℕ) → text ≡ c ∷ cs → is_blank c ≡ false → is_blank (first text) ≡ false
not_blank text cs c k e = ap (λ x. is_blank (first x)) k ∙ e

pub cuts_line : (text rest : List ℕ) (c : ℕ) (cs : List ℕ) → chars text ≡ c ∷ cs → is_blank c ≡ false → begins 45 45 (chars text) ≡ true → Leaves (line_len (chars text)) text rest → Cuts (piece (chars text)) text Gap rest
cuts_line text rest c cs k e f h =
    cuts_same _ (Gap, line_len (chars text)) text Gap rest (cond-false (is_blank (first (chars text))) _ _ (not_blank (chars text) cs c k e) ∙ cond-true _ _ _ f)
    (record { piece = refl; leaves = h })

comment_found : (text cs : List ℕ) (c : ℕ) → text ≡ c ∷ cs → is_blank c ≡ false → begins 45 45 text ≡ false → begins 47 45 text ≡ true → piece text ≡ comment_piece (comment_len 0 text) text
comment_found text cs c k e f g = cond-false (is_blank (first text)) _ _ (not_blank text cs c k e) ∙ (cond-false _ _ _ f ∙ cond-true _ _ _ g)

pub cuts_comment : (text rest : List ℕ) (c : ℕ) (cs : List ℕ) → chars text ≡ c ∷ cs → is_blank c ≡ false → begins 45 45 (chars text) ≡ false → begins 47 45 (chars text) ≡ true → LeavesIf (comment_len 0 (chars text)) text (Some rest) → Cuts (piece (chars text)) text Gap rest
cuts_comment text rest c cs k e f g h = cuts_same _ _ text Gap rest (comment_found (chars text) cs c k e f g) (by (comment_len 0 (chars text)) h)
  where
    by : (o : Option ℕ) → LeavesIf o text (Some rest) → Cuts (comment_piece o (chars text)) text Gap rest
    by (Some n) h = record { piece = refl; leaves = h }
    by None h = absurd h

pub cuts_unclosed : (text : List ℕ) (c : ℕ) (cs : List ℕ) → IsUtf8 text → chars text ≡ c ∷ cs → is_blank c ≡ false → begins 45 45 (chars text) ≡ false → begins 47 45 (chars text) ≡ true → LeavesIf (comment_len 0 (chars text)) text None → Cuts (piece (chars text)) text Unclosed []
cuts_unclosed text c cs u k e f g h = cuts_same _ _ text Unclosed [] (comment_found (chars text) cs c k e f g) (by (comment_len 0 (chars text)) h)
  where
    no_more : (xs : List ℕ) → xs ++ [] ≡ xs
    no_more [] = refl
    no_more (x ∷ xs) = ap (λ ys. x ∷ ys) (no_more xs)

    by : (o : Option ℕ) → LeavesIf o text None → Cuts (comment_piece o (chars text)) text Unclosed []
    by (Some n) h = absurd h
    by None h = record {
      piece = refl;
      leaves = record {
        front = chars text;
        size = refl;
        bytes = sym (encodes-chars text u) ∙ sym (no_more (encode_utf8_all (chars text)));
        characters = sym (no_more (chars text)) ∙ ap (λ x. chars text ++ x) (sym chars-nil);
      };
    }

-- where no blank and no comment begins, the first characters tell the piece
pub piece_scanned : (c : ℕ) (cs : List ℕ) → is_blank c ≡ false → begins 45 45 (c ∷ cs) ≡ false → begins 47 45 (c ∷ cs) ≡ false → piece (c ∷ cs) ≡ more (scanned c cs)
piece_scanned c cs e f g = cond-false (is_blank c) _ _ e ∙ (cond-false (begins 45 45 (c ∷ cs)) _ _ f ∙ (cond-false (begins 47 45 (c ∷ cs)) _ _ g ∙ token_scanned c cs))

pub cuts_token : (text left rest : List ℕ) (c : ℕ) (kind : Piece) → chars text ≡ c ∷ chars left → text ≡ encode_utf8 c ++ left → is_blank c ≡ false → begins 45 45 (chars text) ≡ false → begins 47 45 (chars text) ≡ false → Cuts (scanned c (chars left)) left kind rest → Cuts (piece (chars text)) text kind rest
cuts_token text left rest c kind k b e f g h =
    cuts_same _ (more (scanned c (chars left))) text kind rest
    (ap piece k ∙ piece_scanned c (chars left) e (sym (ap (begins 45 45) k) ∙ f) (sym (ap (begins 47 45) k) ∙ g))
    (record { piece = h.piece; leaves = leaves_more _ text left rest c b k h.leaves })

-- ---- a piece has a character at least

line_some : (c : ℕ) (cs : List ℕ) → begins 45 45 (c ∷ cs) ≡ true → 1 ≤ line_len (c ∷ cs)
line_some c cs e = let k = eqb-true c 45 (and_parts _ _ e).0 in subst (λ (x : ℕ). 1 ≤ line_len (x ∷ cs)) (sym k) (omega arith)

more_some : (n : ℕ) (o : Option ℕ) → 1 ≤ n → MatchOption (option_map (λ k. k + n) o) (Unit {0}) (λ k. 1 ≤ k)
more_some n (Some k) h = omega arith
more_some n None h = tt

comment_some : (depth : ℕ) (cs : List ℕ) → MatchOption (comment_len depth cs) (Unit {0}) (λ n. 1 ≤ n)
comment_some depth [] = tt
comment_some depth (c ∷ []) = tt
comment_some depth (c ∷ d ∷ cs) =
    let P : Option ℕ → Type 0 = λ o. MatchOption o (Unit {0}) (λ n. 1 ≤ n) in
    cond_both ((c == 47) && (d == 45)) _ _ P (λ _. more_some 2 _ (omega arith))
    (λ _. cond_both ((c == 45) && (d == 47)) _ _ P (λ _. cond_both (nat_le depth 1) (Some 2) (option_map (λ n. n + 2) (comment_len (depth - 1) cs)) P (λ _. omega arith) (λ _. more_some 2 _ (omega arith)))
    (λ _. more_some 1 _ (omega arith)))

comment_piece_some : (o : Option ℕ) (c : ℕ) (cs : List ℕ) → MatchOption o (Unit {0}) (λ n. 1 ≤ n) → 1 ≤ (comment_piece o (c ∷ cs)).1
comment_piece_some (Some n) c cs h = h
comment_piece_some None c cs h = omega arith

token_piece_some : (n : ℕ) (text : List ℕ) → 1 ≤ (token_piece n text).1
token_piece_some zero text = omega arith
token_piece_some (suc n) text = omega arith

pub piece_some : (c : ℕ) (cs : List ℕ) → 1 ≤ (piece (c ∷ cs)).1
piece_some c cs =
    let P : Piece × ℕ → Type 0 = λ r. 1 ≤ r.1 in
    cond_both (is_blank c) _ _ P (λ _. omega arith)
    (λ _. cond_both (begins 45 45 (c ∷ cs)) _ _ P (line_some c cs)
    (λ _. cond_both (begins 47 45 (c ∷ cs)) _ _ P (λ _. comment_piece_some (comment_len 0 (c ∷ cs)) c cs (comment_some 0 (c ∷ cs)))
    (λ _. token_piece_some (longest is_token (c ∷ cs)) (c ∷ cs))))

-- ---- a number is digits

token_number : (n : ℕ) (text : List ℕ) → (token_piece n text).0 ≡ Number → is_literal (take (token_piece n text).1 text) ≡ true
token_number zero text e = cc
token_number (suc n) text e = by (is_literal (take (suc n) text)) (is_name (take (suc n) text)) e
  where
    by : (literal name : Bool) → cond literal Number (cond name Identifier Sign) ≡ Number → literal ≡ true
    by true name e = refl
    by false true e = cc
    by false false e = cc

comment_number : (o : Option ℕ) (text : List ℕ) → (comment_piece o text).0 ≡ Number → is_literal (take (comment_piece o text).1 text) ≡ true
comment_number (Some n) text e = cc
comment_number None text e = cc

number_digits : (text : List ℕ) → (piece text).0 ≡ Number → is_literal (take (piece text).1 text) ≡ true
number_digits text =
    let P : Piece × ℕ → Type 0 = λ r. r.0 ≡ Number → is_literal (take r.1 text) ≡ true in
    cond_both (is_blank (first text)) _ _ P (λ _ e. cc)
    (λ _. cond_both (begins 45 45 text) _ _ P (λ _ e. cc)
    (λ _. cond_both (begins 47 45 text) _ _ P (λ _. comment_number (comment_len 0 text) text)
    (λ _. token_number (longest is_token text) text)))

digit_bytes : (ds : List ℕ) → list_all is_digit ds ≡ true → encode_utf8_all ds ≡ ds
digit_bytes [] e = refl
digit_bytes (c ∷ cs) e =
    let parts = and_parts (is_digit c) (list_all is_digit cs) e in
    let small : c ≤ 57 = leb-true c 57 (and_parts (nat_le 48 c) (nat_le c 57) parts.0).1 in
    ap (λ x. x ++ encode_utf8_all cs) (encode_ascii c (omega arith)) ∙ ap (λ x. c ∷ x) (digit_bytes cs parts.1)

literal_bytes : (ds : List ℕ) → is_literal ds ≡ true → encode_utf8_all ds ≡ ds
literal_bytes [] e = refl
literal_bytes (c ∷ cs) e = digit_bytes (c ∷ cs) e

-- the bytes of a number are digits
pub number_bytes : (text : List ℕ) (kind : Piece) (bytes : List ℕ) → kind ≡ (piece text).0 → bytes ≡ encode_utf8_all (take (piece text).1 text) → kind ≡ Number → is_literal bytes ≡ true
number_bytes text kind bytes k b e =
    let h = number_digits text (sym k ∙ e) in
    ap is_literal (b ∙ literal_bytes (take (piece text).1 text) h) ∙ h

-- what follows some characters of a text is a text
pub utf8_behind : (front text rest : List ℕ) → IsUtf8 text → text ≡ encode_utf8_all front ++ rest → IsUtf8 rest
utf8_behind [] text rest u e = subst IsUtf8 e u
utf8_behind (c ∷ cs) text rest u e =
    utf8_behind cs (encode_utf8_all cs ++ rest) rest (IsUtf8-past_char text (encode_utf8_all cs ++ rest) c u (e ∙ simp append_assoc)) refl

-- ---- what is cut off at the seam

front_of : (n : ℕ) (front rest all : List ℕ) → length front ≡ n → all ≡ front ++ rest → take n all ≡ front
front_of n front rest all s e = ap (λ (k : ℕ). take k all) (sym s) ∙ (ap (take (length front)) e ∙ take-append_seam front rest)

rest_of : (n : ℕ) (front rest all : List ℕ) → length front ≡ n → all ≡ front ++ rest → drop n all ≡ rest
rest_of n front rest all s e = ap (λ (k : ℕ). drop k all) (sym s) ∙ (ap (drop (length front)) e ∙ drop-append_seam front rest)

seam : (n : ℕ) (text rest : List ℕ) (h : Leaves n text rest) → length (encode_utf8_all h.front) ≡ length text - length rest
seam n text rest h =
    let size = ap length h.bytes in
    let joined = length-append (encode_utf8_all h.front) rest in
    omega arith

pub front_cut : (n : ℕ) (text rest front : List ℕ) → Leaves n text rest → front ≡ take (length text - length rest) text → front ≡ encode_utf8_all (take n (chars text))
front_cut n text rest front h e =
    e ∙ (front_of _ (encode_utf8_all h.front) rest text (seam n text rest h) h.bytes ∙ ap encode_utf8_all (sym (front_of n h.front (chars rest) (chars text) h.size h.characters)))

pub rest_cut : (n : ℕ) (text rest back : List ℕ) → Leaves n text rest → back ≡ drop (length text - length rest) text → back ≡ rest
rest_cut n text rest back h e = e ∙ rest_of _ (encode_utf8_all h.front) rest text (seam n text rest h) h.bytes

pub rest_characters : (n : ℕ) (text rest back : List ℕ) → Leaves n text rest → back ≡ drop (length text - length rest) text → chars back ≡ drop n (chars text)
rest_characters n text rest back h e = ap chars (rest_cut n text rest back h e) ∙ sym (rest_of n h.front (chars rest) (chars text) h.size h.characters)

pub boundary : (n : ℕ) (text rest : List ℕ) → IsUtf8 text → Leaves n text rest → IsCharBoundary text (length text - length rest)
boundary n text rest u h =
    subst (λ (k : ℕ). IsCharBoundary text k) (seam n text rest h) (IsCharBoundary-at_seam text (encode_utf8_all h.front) rest h.bytes (utf8_behind h.front text rest u h.bytes))

pub utf8_cut : (n : ℕ) (text rest back : List ℕ) → IsUtf8 text → Leaves n text rest → back ≡ drop (length text - length rest) text → IsUtf8 back
utf8_cut n text rest back u h e = subst IsUtf8 (sym (rest_cut n text rest back h e)) (utf8_behind h.front text rest u h.bytes)

pub some_cut : (n : ℕ) (text rest : List ℕ) → Leaves n text rest → 1 ≤ n → 0 < length text - length rest
some_cut n text rest h one =
    let s = seam n text rest h in
    let least = length-le-encodes h.front in
    let count = h.size in
    omega arith
