-- The longest token at a place is what a look at its first characters gives.
use Rattle.std.proofs.Common.{◌≡◌, ℕ, zero, suc, ◌≤◌, List, [], ◌∷◌, length, take, drop, Bool, true, false, ◌&&◌, ◌||◌, refl, sym, ap, ◌∙◌, arith, cond}
use Rattle.std.specs.Prelude.{◌==◌, nat_le}
use Rattle.std.specs.List.{list_any, list_all}
use Rattle.std.specs.Str.{bytes_eq}
use Rattle.std.proofs.lemmas.Slice.Eq.{bytes_eq-Decides}
use Rattle.std.proofs.lemmas.Bool.{cond-true, cond-false, or_from, or_parts, and_from, and_parts, false_from_ne_true, both_ways, leb-true, agree_below_at, and_left, le-leb}
use Rattle.unicode_ident.proofs.Computing.{unicode_ident}
use Rattle.alg_lex.specs.declared.scan.Piece.{Piece}
use Rattle.alg_lex.specs.declared.scan.Piece.TheVariants.{Number, Identifier, Sign, Stray}
use Rattle.alg_lex.specs.Characters.{is_digit, is_start, is_continue, first}
use Rattle.alg_lex.specs.Longest.{longer, longest}
use Rattle.alg_lex.specs.Tokens.{is_literal, is_name, is_name_tail, marks, is_mark, is_token}
use Rattle.alg_lex.specs.Items.{token_form, token_piece}
use Rattle.alg_lex.specs.Scanning.{digits_len, name_len, tail_len, dotted, marked, scanned}
use Rattle.alg_lex.proofs.LongestFronts.{longest_is, longest_behind, longest_none, longest_step}

digits : (cs : List ℕ) → longest (list_all is_digit) cs ≡ digits_len cs
digits [] = refl
digits (c ∷ cs) = longest_step (is_digit c) (list_all is_digit) cs (digits_len cs) refl (digits cs)

literal_longest : (c : ℕ) (cs : List ℕ) → is_digit c ≡ true → longest is_literal (c ∷ cs) ≡ suc (digits_len cs)
literal_longest c cs d = longest_step (is_digit c) (list_all is_digit) cs (digits_len cs) refl (digits cs) ∙ cond-true _ _ _ d

no_end : (n : ℕ) → longer n false ≡ dotted n
no_end zero = refl
no_end (suc n) = refl

-- what goes on with a name, by its first character
tail_by : (dot : Bool) (c : ℕ) (cs : List ℕ) → longest is_name cs ≡ name_len cs → longest is_name_tail cs ≡ tail_len cs → longer (longest (λ front. cond dot (is_name front) (is_continue c && is_name_tail front)) cs) (cond dot (is_name []) (is_continue c && is_name_tail [])) ≡ cond dot (dotted (name_len cs)) (cond (is_continue c) (suc (tail_len cs)) 0)
tail_by true c cs h k = ap (λ n. longer n false) h ∙ no_end (name_len cs)
tail_by false c cs h k = longest_step (is_continue c) is_name_tail cs (tail_len cs) refl k

mutual
  name_longest : (cs : List ℕ) → longest is_name cs ≡ name_len cs
  name_longest [] = refl
  name_longest (c ∷ cs) = longest_step (is_start c) is_name_tail cs (tail_len cs) refl (tail_longest cs)

  tail_longest : (cs : List ℕ) → longest is_name_tail cs ≡ tail_len cs
  tail_longest [] = refl
  tail_longest (c ∷ cs) = tail_by (c == 46) c cs (name_longest cs) (tail_longest cs)

-- ---- marks: a test that each mark fails is failed by what is a mark

none_among : (p : List ℕ → Bool) (ms : List (List ℕ)) → list_any p ms ≡ false → (text : List ℕ) → p text ≡ true → list_any (bytes_eq text) ms ≡ false
none_among p [] none text e = refl
none_among p (m ∷ ms) none text e =
    let parts = or_parts (p m) (list_any p ms) none in
    or_from _ _
    (false_from_ne_true _ (λ same. both_ways (p m) parts.0 (sym (ap p ((bytes_eq-Decides text m).0 same)) ∙ e)))
    (none_among p ms parts.1 text e)

long_mark : (c d e : ℕ) (cs : List ℕ) → is_mark (c ∷ d ∷ e ∷ cs) ≡ false
long_mark c d e cs = none_among (λ m. nat_le 3 (length m)) marks refl (c ∷ d ∷ e ∷ cs) (le-leb 3 _ (omega arith))

-- no mark ends in the character that stands for none
pub ended_mark : (c : ℕ) → is_mark (c ∷ 0 ∷ []) ≡ false
ended_mark c = none_among (λ m. bytes_eq (drop 1 m) (0 ∷ [])) marks refl (c ∷ 0 ∷ []) refl

digit_mark : (c : ℕ) (cs : List ℕ) → is_digit c ≡ true → is_mark (c ∷ cs) ≡ false
digit_mark c cs e = none_among (λ m. is_digit (first m)) marks refl (c ∷ cs) e

no_starts : list_any (λ m. is_start (first m)) marks ≡ false
unfolding unicode_ident
no_starts = refl

start_mark : (c : ℕ) (cs : List ℕ) → is_start c ≡ true → is_mark (c ∷ cs) ≡ false
start_mark c cs e = none_among (λ m. is_start (first m)) marks no_starts (c ∷ cs) e

digit_start : (c : ℕ) → is_digit c ≡ true → is_start c ≡ false
unfolding unicode_ident
digit_start c e =
    let small : c ≤ 57 = leb-true c 57 (and_parts (nat_le 48 c) (nat_le c 57) e).1 in
    let both : (is_digit c && is_start c) ≡ false = agree_below_at (λ x. is_digit x && is_start x) (λ x. false) 58 c refl (omega arith) in
    false_from_ne_true _ (λ s. both_ways (is_digit c && is_start c) both (and_from _ _ e s))

-- ---- the longest token

abbrev pub marked_piece : Bool → Bool → Piece × ℕ
marked_piece true one = (Sign, 2)
marked_piece false true = (Sign, 1)
marked_piece false false = (Stray, 1)

two_longer : (two one : Bool) → longer (longer 0 two) one ≡ cond two 2 (cond one 1 0)
two_longer true one = refl
two_longer false true = refl
two_longer false false = refl

mark_longest : (c : ℕ) (cs : List ℕ) → longest is_mark (c ∷ cs) ≡ cond (is_mark (c ∷ first cs ∷ [])) 2 (cond (is_mark (c ∷ [])) 1 0)
mark_longest c [] = two_longer false (is_mark (c ∷ [])) ∙ sym (cond-false (is_mark (c ∷ 0 ∷ [])) 2 _ (ended_mark c))
mark_longest c (d ∷ ds) =
    ap (λ n. longer (longer n (is_mark (c ∷ d ∷ []))) (is_mark (c ∷ []))) (longest_none (λ front. is_mark (c ∷ d ∷ front)) (λ e front. long_mark c d e front) ds)
    ∙ two_longer (is_mark (c ∷ d ∷ [])) (is_mark (c ∷ []))

-- a piece whose first character is passed
abbrev pub more : Piece × ℕ → Piece × ℕ
more found = (found.0, suc found.1)

sign_form : (c : ℕ) (front : List ℕ) → is_digit c ≡ false → is_start c ≡ false → token_form (c ∷ front) ≡ Sign
sign_form c front d s =
    cond-false (is_literal (c ∷ front)) _ _ (and_left _ _ d) ∙ cond-false (is_name (c ∷ front)) _ _ (and_left _ _ s)

mark_by : (two one : Bool) (c : ℕ) (cs : List ℕ) → is_digit c ≡ false → is_start c ≡ false → token_piece (cond two 2 (cond one 1 0)) (c ∷ cs) ≡ more (cond two (Sign, 1) (cond one (Sign, 0) (Stray, 0)))
mark_by true one c cs d s = ap (λ k. (k, 2)) (sign_form c (take 1 cs) d s)
mark_by false true c cs d s = ap (λ k. (k, 1)) (sign_form c (take 0 cs) d s)
mark_by false false c cs d s = refl

mark_token : (c : ℕ) (cs : List ℕ) → is_digit c ≡ false → is_start c ≡ false → token_piece (longest is_token (c ∷ cs)) (c ∷ cs) ≡ more (marked c cs)
mark_token c cs d s =
    ap (λ n. token_piece n (c ∷ cs))
    (longest_behind is_token is_mark c (λ front. ap (λ b. b || (is_name (c ∷ front) || is_mark (c ∷ front))) (and_left _ _ d) ∙ ap (λ b. b || is_mark (c ∷ front)) (and_left _ _ s)) cs ∙ mark_longest c cs)
    ∙ mark_by (is_mark (c ∷ first cs ∷ [])) (is_mark (c ∷ [])) c cs d s

or_none : (a b : Bool) → b ≡ false → (a || b) ≡ a
or_none true b e = refl
or_none false b e = e

name_token : (c : ℕ) (cs : List ℕ) → is_digit c ≡ false → is_start c ≡ true → token_piece (longest is_token (c ∷ cs)) (c ∷ cs) ≡ (Identifier, suc (tail_len cs))
name_token c cs d s =
    let size : longest is_name (c ∷ cs) ≡ suc (tail_len cs) = name_longest (c ∷ cs) ∙ cond-true (is_start c) (suc (tail_len cs)) 0 s in
    let passes = (longest_is is_name (c ∷ cs)).passes in
    let name : is_name (c ∷ take (tail_len cs) cs) ≡ true = sym (ap (λ n. is_name (take n (c ∷ cs))) size) ∙ passes (omega arith) in
    ap (λ n. token_piece n (c ∷ cs))
    (longest_behind is_token is_name c (λ front. ap (λ b. b || (is_name (c ∷ front) || is_mark (c ∷ front))) (and_left _ _ d) ∙ or_none _ _ (start_mark c front s)) cs ∙ size)
    ∙ ap (λ k. (k, suc (tail_len cs))) (cond-false (is_literal (c ∷ take (tail_len cs) cs)) _ _ (and_left _ _ d) ∙ cond-true (is_name (c ∷ take (tail_len cs) cs)) _ _ name)

literal_token : (c : ℕ) (cs : List ℕ) → is_digit c ≡ true → token_piece (longest is_token (c ∷ cs)) (c ∷ cs) ≡ (Number, suc (digits_len cs))
literal_token c cs d =
    let size = literal_longest c cs d in
    let passes = (longest_is is_literal (c ∷ cs)).passes in
    let literal : is_literal (c ∷ take (digits_len cs) cs) ≡ true = sym (ap (λ n. is_literal (take n (c ∷ cs))) size) ∙ passes (omega arith) in
    ap (λ n. token_piece n (c ∷ cs))
    (longest_behind is_token is_literal c (λ front. or_none _ _ (or_from _ _ (and_left _ _ (digit_start c d)) (digit_mark c front d))) cs ∙ size)
    ∙ ap (λ k. (k, suc (digits_len cs))) (cond-true (is_literal (c ∷ take (digits_len cs) cs)) _ _ literal)

-- what the first characters tell is the longest token
pub token_scanned : (c : ℕ) (cs : List ℕ) → token_piece (longest is_token (c ∷ cs)) (c ∷ cs) ≡ more (scanned c cs)
token_scanned c cs = by (is_digit c) (is_start c) refl refl
  where
    by : (d s : Bool) → is_digit c ≡ d → is_start c ≡ s → token_piece (longest is_token (c ∷ cs)) (c ∷ cs) ≡ more (scanned c cs)
    by true s e f = literal_token c cs e ∙ ap more (sym (cond-true (is_digit c) (Number, digits_len cs) _ e))
    by false true e f = name_token c cs e f ∙ ap more (sym (cond-false (is_digit c) (Number, digits_len cs) _ e ∙ cond-true (is_start c) (Identifier, tail_len cs) _ f))
    by false false e f = mark_token c cs e f ∙ ap more (sym (cond-false (is_digit c) (Number, digits_len cs) _ e ∙ cond-false (is_start c) (Identifier, tail_len cs) _ f))
