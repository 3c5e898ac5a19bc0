-- The lexer's tokens of a text, piece by piece.
use Rattle.std.proofs.Common.{◌≡◌, ℕ, suc, ◌^◌, ◌≤◌, ◌<◌, List, [], ◌∷◌, ◌++◌, length, take, drop, Bool, true, false, ◌&&◌, ◌||◌, Some, refl, sym, ap, subst, ◌∙◌, arith, append_assoc, le-leb, ◌⊎◌, inl, inr}
use Rattle.std.specs.Prelude.{◌==◌, nat_le, nat_lt, if◌then◌else◌}
use Rattle.std.specs.Fmt.{decimal}
use Rattle.std.specs.List.{list_all}
use Rattle.std.specs.Str.{chars, encode_utf8_all, IsUtf8}
use Rattle.std.specs.Str.Parse.{AllDigits, digits_value}
use Rattle.std.proofs.lemmas.Str.{chars-append, encodes-chars, chars_from_encodes, chars-IsAscii, IsUtf8-from_ascii}
use Rattle.std.proofs.lemmas.Str.Parse.{tells_digits}
use Rattle.std.proofs.lemmas.Fmt.{decimal_is_IsNumeral_wide, IsAscii-decimal_wide}
use Rattle.std.proofs.lemmas.Bool.{cases_Bool, cond-true, cond-false, and_parts, eqb-true, leb-true, lt-ltb, false≢true}
use Rattle.std.proofs.Math.Seq.{drop-append_seam, take-append_seam}
use Rattle.unicode_ident.proofs.Computing.{unicode_ident}
use Rattle.alg_lex.specs.declared.Kind.{Kind}
use Rattle.alg_lex.specs.declared.Kind.TheVariants as kind
use Rattle.alg_lex.specs.declared.scan.Piece.{Piece}
use Rattle.alg_lex.specs.declared.scan.Piece.TheVariants.{Gap, Number, Identifier, Sign as SignPiece}
use Rattle.alg_lex.specs.Characters.{is_blank, is_digit, is_start, is_continue, first, begins}
use Rattle.alg_lex.specs.Tokens.{is_name, is_name_tail, is_word}
use Rattle.alg_lex.specs.Items.{Place, token, behind, before, item_at, piece, items_from}
use Rattle.alg_lex.specs.Scanning.{digits_len, name_len, tail_len, dotted, scanned}
use Rattle.alg_lex.proofs.LongestTokens.{more}
use Rattle.alg_lex.proofs.Pieces.{piece_scanned}
use Rattle.alg_lex.proofs.Steps.{items_step}
use Rattle.alg_commands.specs.Items.{first_fault, signs_of}
use Rattle.alg_syntax.specs.declared.signs.Sign.{Sign}
use Rattle.alg_syntax.specs.Signs.{sign_of}
use Rattle.alg_show.specs.ReadingBack.{IsNamed}

-- from this place the text gives these signs, and then what the rest gives from the other place
pub record Past (p : Place) (t : List ℕ) (ls : List Sign) (rest : List ℕ) : Type 0 where
  pub place : Place
  pub same_line : place.fresh ≡ false
  pub signs : signs_of (items_from p (chars (t ++ rest))) ≡ ls ++ signs_of (items_from place (chars rest))
  pub faults : first_fault (items_from p (chars (t ++ rest))) ≡ first_fault (items_from place (chars rest))

-- a text on one line
pub record Passes (t : List ℕ) (ls : List Sign) (rest : List ℕ) : Type 0 where
  pub go : (p : Place) → p.fresh ≡ false → Past p t ls rest

pub both : (t u : List ℕ) (ls ms : List Sign) (rest : List ℕ) → Passes t ls (u ++ rest) → Passes u ms rest → Passes (t ++ u) (ls ++ ms) rest
both t u ls ms rest f g = record {
  go = λ p e.
      let a = append_assoc t u rest in
      let x = f.go p e in
      let y = g.go x.place x.same_line in
      record {
        place = y.place;
        same_line = y.same_line;
        signs = ap (λ s. signs_of (items_from p (chars s))) a ∙ (x.signs ∙ (ap (λ s. ls ++ s) y.signs ∙ sym (append_assoc ls ms _)));
        faults = ap (λ s. first_fault (items_from p (chars s))) a ∙ (x.faults ∙ y.faults);
      };
}

-- a piece at the front
items_here : (t rest : List ℕ) (c : ℕ) (ds : List ℕ) (k : Piece) (p : Place) → IsUtf8 t → chars t ≡ c ∷ ds → piece (c ∷ (ds ++ chars rest)) ≡ (k, length (c ∷ ds)) → items_from p (chars (t ++ rest)) ≡ before (item_at k t p) (behind p t) (λ q. items_from q (chars rest))
items_here t rest c ds k p u e h =
    ap (items_from p) (chars-append t rest u ∙ ap (λ x. x ++ chars rest) e)
    ∙ (items_step p c (ds ++ chars rest)
    ∙ (ap (λ x. before (item_at x.0 (encode_utf8_all (take x.1 (c ∷ (ds ++ chars rest)))) p) (behind p (encode_utf8_all (take x.1 (c ∷ (ds ++ chars rest))))) (λ q. items_from q (drop x.1 (c ∷ (ds ++ chars rest))))) h
    ∙ (ap (λ x. before (item_at k (encode_utf8_all x) p) (behind p (encode_utf8_all x)) (λ q. items_from q (drop (length (c ∷ ds)) (c ∷ (ds ++ chars rest))))) (take-append_seam (c ∷ ds) (chars rest))
    ∙ (ap (λ x. before (item_at k x p) (behind p x) (λ q. items_from q (drop (length (c ∷ ds)) (c ∷ (ds ++ chars rest))))) (ap encode_utf8_all (sym e) ∙ encodes-chars t u)
    ∙ ap (λ x. before (item_at k t p) (behind p t) (λ q. items_from q x)) (drop-append_seam (c ∷ ds) (chars rest))))))

-- a token
pub one : (t rest : List ℕ) (c : ℕ) (ds : List ℕ) (k : Piece) (found : Kind) → IsUtf8 t → chars t ≡ c ∷ ds → piece (c ∷ (ds ++ chars rest)) ≡ (k, length (c ∷ ds)) → ((p : Place) → item_at k t p ≡ Some (token found t p)) → Passes t (sign_of found false t ∷ []) rest
one t rest c ds k found u e h i = record {
  go = λ p f.
      let s = items_here t rest c ds k p u e h ∙ ap (λ o. before o (behind p t) (λ q. items_from q (chars rest))) (i p) in
      record {
        place = record (behind p t) { fresh = false };
        same_line = refl;
        signs = ap signs_of s ∙ ap (λ (b : Bool). sign_of found b t ∷ signs_of (items_from (record (behind p t) { fresh = false }) (chars rest))) f;
        faults = ap first_fault s;
      };
}

blank_char : chars (32 ∷ []) ≡ 32 ∷ []
unfolding lib.Utf8.encode
blank_char = sym (chars_from_encodes (32 ∷ []) (32 ∷ []) (32 ∷ [], (refl, refl)) refl)

blank_utf8 : IsUtf8 (32 ∷ [])
unfolding lib.Utf8.encode
blank_utf8 = (32 ∷ [], (refl, refl))

or_same : (b : Bool) → b ≡ false → (b || false) ≡ false
or_same true e = e
or_same false e = refl

pub blank : (rest : List ℕ) → Passes (32 ∷ []) [] rest
blank rest = record {
  go = λ p f.
      let s = items_here (32 ∷ []) rest 32 [] Gap p blank_utf8 blank_char refl in
      record {
        place = behind p (32 ∷ []);
        same_line = or_same p.fresh f;
        signs = ap signs_of s;
        faults = ap first_fault s;
      };
}

-- ---- marks

spelled : (t : List ℕ) (u : IsUtf8 t) → chars t ≡ u.0
spelled t u = sym (chars_from_encodes u.0 t u u.1.1)

pub mark : (t rest : List ℕ) (c : ℕ) (ds : List ℕ) → (u : IsUtf8 t) → u.0 ≡ c ∷ ds → is_blank c ≡ false → begins 45 45 (c ∷ (ds ++ chars rest)) ≡ false → begins 47 45 (c ∷ (ds ++ chars rest)) ≡ false → scanned c (ds ++ chars rest) ≡ (SignPiece, length ds) → Passes t (sign_of kind.Mark false t ∷ []) rest
mark t rest c ds u e f g h k = one t rest c ds SignPiece kind.Mark u (spelled t u ∙ e) (piece_scanned c (ds ++ chars rest) f g h ∙ ap more k) (λ p. refl)

pub blank_chars : (rest : List ℕ) → chars (32 ∷ rest) ≡ 32 ∷ chars rest
blank_chars rest = chars-append (32 ∷ []) rest blank_utf8 ∙ ap (λ x. x ++ chars rest) blank_char

-- before a blank
pub mark_blank : (t rest : List ℕ) (c : ℕ) → (u : IsUtf8 t) → u.0 ≡ c ∷ [] → is_blank c ≡ false → begins 45 45 (c ∷ 32 ∷ chars rest) ≡ false → begins 47 45 (c ∷ 32 ∷ chars rest) ≡ false → scanned c (32 ∷ chars rest) ≡ (SignPiece, 0) → Passes t (sign_of kind.Mark false t ∷ []) (32 ∷ rest)
mark_blank t rest c u e f g h k =
    let b = blank_chars rest in
    mark t (32 ∷ rest) c [] u e f (ap (λ x. begins 45 45 (c ∷ x)) b ∙ g) (ap (λ x. begins 47 45 (c ∷ x)) b ∙ h) (ap (scanned c) b ∙ k)

-- the first character of what follows
abbrev pub front : List ℕ → ℕ
front rest = first (chars rest)

pub front_of : (t rest : List ℕ) (c : ℕ) (ds : List ℕ) → (u : IsUtf8 t) → u.0 ≡ c ∷ ds → front (t ++ rest) ≡ c
front_of t rest c ds u e = ap first (chars-append t rest u ∙ ap (λ x. x ++ chars rest) (spelled t u ∙ e))

pub blank_front : (rest : List ℕ) → front (32 ∷ rest) ≡ 32
unfolding blank_utf8
blank_front rest = front_of (32 ∷ []) rest 32 [] blank_utf8 refl

-- a character with another property
pub other : (p : ℕ → Bool) (k c : ℕ) → p k ≡ false → p c ≡ true → (c == k) ≡ false
other p k c e h = by (cases_Bool (c == k))
  where
    by : ((c == k) ≡ true) ⊎ ((c == k) ≡ false) → (c == k) ≡ false
    by (inl a) = absurd (false≢true (sym e ∙ subst (λ (x : ℕ). p x ≡ true) (eqb-true c k a) h))
    by (inr a) = a

no_blank : (p : ℕ → Bool) (c : ℕ) → p 32 ≡ false → p 9 ≡ false → p 13 ≡ false → p 10 ≡ false → p c ≡ true → is_blank c ≡ false
no_blank p c e f g h k =
    ap (λ b. b || ((c == 9) || ((c == 13) || (c == 10)))) (other p 32 c e k)
    ∙ (ap (λ b. b || ((c == 13) || (c == 10))) (other p 9 c f k)
    ∙ (ap (λ b. b || (c == 10)) (other p 13 c g k) ∙ other p 10 c h k))

begins_none : (p : ℕ → Bool) (k c : ℕ) (cs : List ℕ) → p k ≡ false → p c ≡ true → begins k 45 (c ∷ cs) ≡ false
begins_none p k c cs e h = ap (λ b. b && (first cs == 45)) (other p k c e h)

-- ---- literals

digits_stop : (ds rest : List ℕ) → list_all is_digit ds ≡ true → is_digit (first rest) ≡ false → digits_len (ds ++ rest) ≡ length ds
digits_stop [] [] h e = refl
digits_stop [] (c ∷ cs) h e = cond-false _ _ _ e
digits_stop (d ∷ ds) rest h e =
    let k = and_parts (is_digit d) (list_all is_digit ds) h in
    cond-true _ _ _ k.0 ∙ ap suc (digits_stop ds rest k.1 e)

pub literal_piece : (c : ℕ) (ds rest : List ℕ) → list_all is_digit (c ∷ ds) ≡ true → is_digit (first rest) ≡ false → piece (c ∷ (ds ++ rest)) ≡ (Number, length (c ∷ ds))
literal_piece c ds rest h e =
    let k = and_parts (is_digit c) (list_all is_digit ds) h in
    piece_scanned c (ds ++ rest) (no_blank is_digit c refl refl refl refl k.0) (begins_none is_digit 45 c (ds ++ rest) refl k.0) (begins_none is_digit 47 c (ds ++ rest) refl k.0)
    ∙ ap more (cond-true (is_digit c) _ _ k.0 ∙ ap (λ n. (Number, n)) (digits_stop ds rest k.1 e))

pub all_digits : (ds : List ℕ) → AllDigits 10 ds → list_all is_digit ds ≡ true
all_digits [] h = refl
all_digits (c ∷ cs) h =
    let k = tells_digits.parts c cs h in
    ap (λ b. b && list_all is_digit cs) (ap (λ b. b && nat_le c 57) (le-leb 48 c k.0.0) ∙ le-leb c 57 k.0.1) ∙ all_digits cs k.1

narrow_item : (b : Bool) (v n : ℕ) (t : List ℕ) (p : Place) → b ≡ true → v ≡ n → Some (if b then token (kind.Literal v) t p else token (kind.Literal v) t p) ≡ Some (token (kind.Literal n) t p)
narrow_item true v n t p e f = ap (λ (k : ℕ). Some (token (kind.Literal k) t p)) f
narrow_item false v n t p e f = cc

pub literal : (n : ℕ) (rest : List ℕ) → n < 2 ^ 127 → is_digit (front rest) ≡ false → Passes (decimal n) (sign_of (kind.Literal n) false (decimal n) ∷ []) rest
literal n rest l e = by (decimal n) refl
  where
    numeral : (0 < length (decimal n)) × AllDigits 10 (decimal n)
    numeral = (decimal_is_IsNumeral_wide n (omega arith)).0

    value : digits_value 10 (decimal n) ≡ n
    value = (decimal_is_IsNumeral_wide n (omega arith)).1

    item : (p : Place) → item_at Number (decimal n) p ≡ Some (token (kind.Literal n) (decimal n) p)
    item p = ap Some (cond-true _ _ _ (ap (λ (v : ℕ). nat_lt v (2 ^ 127)) value ∙ lt-ltb n (2 ^ 127) l)) ∙ ap (λ (v : ℕ). Some (token (kind.Literal v) (decimal n) p)) value

    by : (cs : List ℕ) → decimal n ≡ cs → Passes (decimal n) (sign_of (kind.Literal n) false (decimal n) ∷ []) rest
    by [] h = absurd (omega (arith, ap length h, numeral.0))
    by (c ∷ cs) h =
        one (decimal n) rest c cs Number (kind.Literal n) (IsUtf8-from_ascii (decimal n) (IsAscii-decimal_wide n (omega arith))) (chars-IsAscii (decimal n) (IsAscii-decimal_wide n (omega arith)) ∙ h)
        (literal_piece c cs (chars rest) (ap (list_all is_digit) (sym h) ∙ all_digits (decimal n) numeral.1) e) item

-- ---- names

some_name : (cs : List ℕ) → is_name cs ≡ true → dotted (length cs) ≡ suc (length cs)
some_name [] h = absurd (false≢true h)
some_name (c ∷ cs) h = refl

tail_by : (c : ℕ) (cs rest : List ℕ) → is_name_tail (c ∷ cs) ≡ true → (is_name cs ≡ true → name_len (cs ++ rest) ≡ length cs) → (is_name_tail cs ≡ true → tail_len (cs ++ rest) ≡ length cs) → tail_len (c ∷ (cs ++ rest)) ≡ length (c ∷ cs)
tail_by c cs rest h p q = go (cases_Bool (c == 46))
  where
    go : ((c == 46) ≡ true) ⊎ ((c == 46) ≡ false) → tail_len (c ∷ (cs ++ rest)) ≡ length (c ∷ cs)
    go (inl a) =
        let k : is_name cs ≡ true = sym (cond-true (c == 46) (is_name cs) (is_continue c && is_name_tail cs) a) ∙ h in
        cond-true _ _ _ a ∙ (ap dotted (p k) ∙ some_name cs k)
    go (inr a) =
        let k = and_parts (is_continue c) (is_name_tail cs) (sym (cond-false (c == 46) (is_name cs) (is_continue c && is_name_tail cs) a) ∙ h) in
        cond-false _ _ _ a ∙ (cond-true _ _ _ k.0 ∙ ap suc (q k.1))

mutual
  name_reach : (cs rest : List ℕ) → is_name cs ≡ true → (first rest == 46) ≡ false → is_continue (first rest) ≡ false → name_len (cs ++ rest) ≡ length cs
  name_reach [] rest h e f = absurd (false≢true h)
  name_reach (c ∷ cs) rest h e f =
      let k = and_parts (is_start c) (is_name_tail cs) h in
      cond-true _ _ _ k.0 ∙ ap suc (tail_reach cs rest k.1 e f)

  tail_reach : (cs rest : List ℕ) → is_name_tail cs ≡ true → (first rest == 46) ≡ false → is_continue (first rest) ≡ false → tail_len (cs ++ rest) ≡ length cs
  tail_reach [] [] h e f = refl
  tail_reach [] (c ∷ rest) h e f = cond-false _ _ _ e ∙ cond-false _ _ _ f
  tail_reach (c ∷ cs) rest h e f = tail_by c cs rest h (λ k. name_reach cs rest k e f) (λ k. tail_reach cs rest k e f)

past : (k c : ℕ) → is_start k ≡ false → is_start c ≡ true → k ≤ c → suc k ≤ c
past k c e h l =
    let d : c ≡ k → ⊥ = λ q. false≢true (sym e ∙ subst (λ (x : ℕ). is_start x ≡ true) q h) in
    omega arith

start_no_digit : (c : ℕ) → is_start c ≡ true → is_digit c ≡ false
unfolding unicode_ident
start_no_digit c h = by (cases_Bool (is_digit c))
  where
    by : (is_digit c ≡ true) ⊎ (is_digit c ≡ false) → is_digit c ≡ false
    by (inr a) = a
    by (inl a) =
        let k = and_parts _ _ a in
        let u = leb-true c 57 k.1 in
        let l = past 57 c refl h (past 56 c refl h (past 55 c refl h (past 54 c refl h (past 53 c refl h (past 52 c refl h (past 51 c refl h (past 50 c refl h (past 49 c refl h (past 48 c refl h (leb-true 48 c k.0)))))))))) in
        absurd (omega arith)

name_piece : (c : ℕ) (cs rest : List ℕ) → is_name (c ∷ cs) ≡ true → (first rest == 46) ≡ false → is_continue (first rest) ≡ false → piece (c ∷ (cs ++ rest)) ≡ (Identifier, length (c ∷ cs))
unfolding unicode_ident
name_piece c cs rest h e f =
    let k = and_parts (is_start c) (is_name_tail cs) h in
    piece_scanned c (cs ++ rest) (no_blank is_start c refl refl refl refl k.0) (begins_none is_start 45 c (cs ++ rest) refl k.0) (begins_none is_start 47 c (cs ++ rest) refl k.0)
    ∙ ap more (cond-false _ _ _ (start_no_digit c k.0) ∙ (cond-true _ _ _ k.0 ∙ ap (λ n. (Identifier, n)) (tail_reach cs rest k.1 e f)))

pub name : (t rest : List ℕ) → IsNamed t → (front rest == 46) ≡ false → is_continue (front rest) ≡ false → Passes t (sign_of kind.Name false t ∷ []) rest
name t rest n e f = by (chars t) refl
  where
    by : (cs : List ℕ) → chars t ≡ cs → Passes t (sign_of kind.Name false t ∷ []) rest
    by [] h = absurd (false≢true (ap is_name (sym h) ∙ n.name))
    by (c ∷ cs) h =
        one t rest c cs Identifier kind.Name n.utf8 h (name_piece c cs (chars rest) (ap is_name (sym h) ∙ n.name) e f)
        (λ p. ap (λ (b : Bool). Some (token (if b then kind.Word else kind.Name) t p)) n.free)

-- a word of the notation
pub keyword : (t rest : List ℕ) → (u : IsUtf8 t) → is_name u.0 ≡ true → is_word t ≡ true → (front rest == 46) ≡ false → is_continue (front rest) ≡ false → Passes t (sign_of kind.Word false t ∷ []) rest
keyword t rest u n w e f = by (chars t) refl
  where
    by : (cs : List ℕ) → chars t ≡ cs → Passes t (sign_of kind.Word false t ∷ []) rest
    by [] h = absurd (false≢true (ap is_name (sym h ∙ spelled t u) ∙ n))
    by (c ∷ cs) h =
        one t rest c cs Identifier kind.Word u h (name_piece c cs (chars rest) (ap is_name (sym h ∙ spelled t u) ∙ n) e f)
        (λ p. ap (λ (b : Bool). Some (token (if b then kind.Word else kind.Name) t p)) w)
