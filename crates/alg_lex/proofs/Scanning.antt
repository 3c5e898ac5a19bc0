-- Scanning, a character at a time.
use Rattle.std.proofs.Common.{◌≡◌, ℕ, suc, ◌+◌, ◌≤◌, ◌<◌, List, [], ◌∷◌, ◌++◌, length, Option, Some, None, refl, sym, ap, subst, ◌∙◌, arith, append_assoc, length-append, encode_utf8, true, false}
use Rattle.std.specs.Prelude.{option_map, ◌==◌, ◌&&◌, ◌-◌}
use Rattle.std.proofs.lemmas.Bool.{cond-true, cond-false, eq-eqb, ne_eqb, le-leb, lt-leb}
use Rattle.std.proofs.lemmas.Str.{IsUtf8-past_char}
use Rattle.std.specs.Str.{chars, encode_utf8_all, IsUtf8}
use Rattle.alg_lex.specs.Characters.{is_digit, is_start, is_continue}
use Rattle.alg_lex.specs.Comments.{comment_len}
use Rattle.alg_lex.specs.Scanning.{Leaves, LeavesIf, Scans, digits_len, name_len, tail_len, dotted}

pub scan_start : (all : ℕ) (text : List ℕ) → IsUtf8 text → Scans all text text all
scan_start all text u = record { front = []; bytes = refl; characters = refl; count = omega arith; utf8 = u }

spelled : (front more : List ℕ) (rest : List ℕ) → encode_utf8_all front ++ (encode_utf8_all more ++ rest) ≡ encode_utf8_all (front ++ more) ++ rest
spelled [] more rest = refl
spelled (d ∷ ds) more rest = simp append_assoc (ap (λ x. encode_utf8 d ++ x) (spelled ds more rest))

-- one scan, and then a further one
pub scan_both : (all more less : ℕ) (text left rest : List ℕ) → Scans all text left more → Scans more left rest less → Scans all text rest less
scan_both all more less text left rest s t = record {
  front = s.front ++ t.front;
  bytes = s.bytes ∙ (ap (λ x. encode_utf8_all s.front ++ x) t.bytes ∙ spelled s.front t.front rest);
  characters = s.characters ∙ (ap (λ x. s.front ++ x) t.characters ∙ sym (append_assoc s.front t.front (chars rest)));
  count = let e = length-append s.front t.front in let h = s.count in let k = t.count in omega arith;
  utf8 = t.utf8;
}

-- one character
pub scan_one : (more less : ℕ) (left rest : List ℕ) (c : ℕ) → IsUtf8 left → left ≡ encode_utf8 c ++ rest → chars left ≡ c ∷ chars rest → more ≡ suc less → Scans more left rest less
scan_one more less left rest c u b k m = record {
  front = c ∷ [];
  bytes = b ∙ simp append_assoc;
  characters = k;
  count = m ∙ omega arith;
  utf8 = IsUtf8-past_char left rest c u b;
}

pub scan_step : (all more less : ℕ) (text left rest : List ℕ) (c : ℕ) → Scans all text left more → left ≡ encode_utf8 c ++ rest → chars left ≡ c ∷ chars rest → more ≡ suc less → Scans all text rest less
scan_step all more less text left rest c s b k m = scan_both all more less text left rest s (scan_one more less left rest c s.utf8 b k m)

pub scan_end : (all more : ℕ) (text left : List ℕ) → Scans all text left more → more ≡ 0 → Leaves all text left
scan_end all more text left s m = record { front = s.front; size = (let h = s.count in omega arith); bytes = s.bytes; characters = s.characters }

pub digit_more : (text : List ℕ) (c : ℕ) (cs : List ℕ) → text ≡ c ∷ cs → is_digit c ≡ true → digits_len text ≡ suc (digits_len cs)
digit_more text c cs e d = ap digits_len e ∙ cond-true _ _ _ d

pub digit_none : (text : List ℕ) (c : ℕ) (cs : List ℕ) → text ≡ c ∷ cs → is_digit c ≡ false → digits_len text ≡ 0
digit_none text c cs e d = ap digits_len e ∙ cond-false _ _ _ d

-- a character of a name's part
pub letter_more : (text : List ℕ) (c : ℕ) (cs : List ℕ) → text ≡ c ∷ cs → (c ≡ 46 → ⊥) → is_continue c ≡ true → tail_len text ≡ suc (tail_len cs)
letter_more text c cs e n k = ap tail_len e ∙ (cond-false _ _ _ (ne_eqb c 46 n) ∙ cond-true _ _ _ k)

-- a dot, and the first character of a part
pub dot_more : (text : List ℕ) (c : ℕ) (left : List ℕ) (d : ℕ) (rest : List ℕ) → text ≡ c ∷ left → left ≡ d ∷ rest → c ≡ 46 → is_start d ≡ true → tail_len text ≡ suc (suc (tail_len rest))
dot_more text c left d rest e f k s =
    ap tail_len e ∙ (cond-true _ _ _ (eq-eqb c 46 k) ∙ (ap (λ x. dotted (name_len x)) f ∙ ap dotted (cond-true (is_start d) (suc (tail_len rest)) 0 s)))

pub scan_dot : (text left rest : List ℕ) (c d : ℕ) → IsUtf8 text → text ≡ encode_utf8 c ++ left → chars text ≡ c ∷ chars left → left ≡ encode_utf8 d ++ rest → chars left ≡ d ∷ chars rest → c ≡ 46 → is_start d ≡ true → Scans (tail_len (chars text)) text rest (tail_len (chars rest))
scan_dot text left rest c d u b e a f k s =
    let one = scan_one _ (suc (tail_len (chars rest))) text left c u b e (dot_more (chars text) c (chars left) d (chars rest) e f k s) in
    scan_both _ _ _ text left rest one (scan_one _ _ left rest d one.utf8 a f refl)

-- A front of the text has been passed; all of it is as much longer than what is left to be passed, if there is an end.
pub record ScansIf (all : Option ℕ) (text left : List ℕ) (more : Option ℕ) : Type 0 where
  pub front : List ℕ
  pub bytes : text ≡ encode_utf8_all front ++ left
  pub characters : chars text ≡ front ++ chars left
  pub count : all ≡ option_map (λ n. length front + n) more
  pub utf8 : IsUtf8 left

pub scan_if_start : (all : Option ℕ) (text : List ℕ) → IsUtf8 text → ScansIf all text text all
scan_if_start all text u = record { front = []; bytes = refl; characters = refl; count = same all; utf8 = u }
  where
    same : (o : Option ℕ) → o ≡ option_map (λ n. 0 + n) o
    same (Some n) = ap Some (omega arith)
    same None = refl

longer_by : (a b c d : ℕ) (o : Option ℕ) → b ≡ c + 0 → d ≡ a + c → option_map (λ n. a + n) (option_map (λ n. n + b) o) ≡ option_map (λ n. d + n) o
longer_by a b c d (Some n) e f = ap Some (omega arith)
longer_by a b c d None e f = refl

-- so many characters more
pub scan_if_both : (all more less : Option ℕ) (size : ℕ) (text left rest : List ℕ) → ScansIf all text left more → Scans size left rest 0 → more ≡ option_map (λ n. n + size) less → ScansIf all text rest less
scan_if_both all more less size text left rest s t m = record {
  front = s.front ++ t.front;
  bytes = s.bytes ∙ (ap (λ x. encode_utf8_all s.front ++ x) t.bytes ∙ spelled s.front t.front rest);
  characters = s.characters ∙ (ap (λ x. s.front ++ x) t.characters ∙ sym (append_assoc s.front t.front (chars rest)));
  count = s.count ∙ (ap (option_map (λ n. length s.front + n)) m ∙ longer_by (length s.front) size (length t.front) (length (s.front ++ t.front)) less t.count (length-append s.front t.front));
  utf8 = t.utf8;
}

-- the end comes behind so many characters
pub scan_if_end : (all more : Option ℕ) (size : ℕ) (text left rest : List ℕ) → ScansIf all text left more → Scans size left rest 0 → more ≡ Some size → LeavesIf all text (Some rest)
scan_if_end all more size text left rest s t m =
    let whole = s.count ∙ ap (option_map (λ n. length s.front + n)) m in
    subst (λ o. LeavesIf o text (Some rest)) (sym whole) (record {
      front = s.front ++ t.front;
      size = (let e = length-append s.front t.front in let k = t.count in omega arith);
      bytes = s.bytes ∙ (ap (λ x. encode_utf8_all s.front ++ x) t.bytes ∙ spelled s.front t.front rest);
      characters = s.characters ∙ (ap (λ x. s.front ++ x) t.characters ∙ sym (append_assoc s.front t.front (chars rest)));
    })

-- there is no end
pub scan_if_none : (all more : Option ℕ) (text left : List ℕ) → ScansIf all text left more → more ≡ None → LeavesIf all text None
scan_if_none all more text left s m =
    subst (λ o. LeavesIf o text None) (sym (s.count ∙ ap (option_map (λ n. length s.front + n)) m)) tt

-- two characters
pub scan_two : (text left rest : List ℕ) (c d : ℕ) → IsUtf8 text → text ≡ encode_utf8 c ++ left → chars text ≡ c ∷ chars left → left ≡ encode_utf8 d ++ rest → chars left ≡ d ∷ chars rest → Scans 2 text rest 0
scan_two text left rest c d u b e a f =
    let one = scan_one 2 1 text left c u b e refl in
    scan_both _ _ _ text left rest one (scan_one 1 0 left rest d one.utf8 a f refl)

-- ---- two characters of a comment

pub comment_opens : (depth : ℕ) (text left rest : List ℕ) (c d : ℕ) → text ≡ c ∷ left → left ≡ d ∷ rest → ((c == 47) && (d == 45)) ≡ true → comment_len depth text ≡ option_map (λ n. n + 2) (comment_len (depth + 1) rest)
comment_opens depth text left rest c d e f t = ap (comment_len depth) (e ∙ ap (λ x. c ∷ x) f) ∙ cond-true _ _ _ t

pub comment_ends : (depth : ℕ) (text left rest : List ℕ) (c d : ℕ) → text ≡ c ∷ left → left ≡ d ∷ rest → ((c == 47) && (d == 45)) ≡ false → ((c == 45) && (d == 47)) ≡ true → depth ≤ 1 → comment_len depth text ≡ Some 2
comment_ends depth text left rest c d e f t u s =
    ap (comment_len depth) (e ∙ ap (λ x. c ∷ x) f) ∙ (cond-false _ _ _ t ∙ (cond-true _ _ _ u ∙ cond-true _ _ _ (le-leb depth 1 s)))

pub comment_closes : (depth : ℕ) (text left rest : List ℕ) (c d : ℕ) → text ≡ c ∷ left → left ≡ d ∷ rest → ((c == 47) && (d == 45)) ≡ false → ((c == 45) && (d == 47)) ≡ true → 1 < depth → comment_len depth text ≡ option_map (λ n. n + 2) (comment_len (depth - 1) rest)
comment_closes depth text left rest c d e f t u s =
    ap (comment_len depth) (e ∙ ap (λ x. c ∷ x) f) ∙ (cond-false _ _ _ t ∙ (cond-true _ _ _ u ∙ cond-false _ _ _ (lt-leb depth 1 s)))

pub comment_goes_on : (depth : ℕ) (text left rest : List ℕ) (c d : ℕ) → text ≡ c ∷ left → left ≡ d ∷ rest → ((c == 47) && (d == 45)) ≡ false → ((c == 45) && (d == 47)) ≡ false → comment_len depth text ≡ option_map (λ n. n + 1) (comment_len depth left)
comment_goes_on depth text left rest c d e f t u =
    ap (comment_len depth) (e ∙ ap (λ x. c ∷ x) f) ∙ (cond-false _ _ _ t ∙ (cond-false _ _ _ u ∙ ap (λ x. option_map (λ n. n + 1) (comment_len depth x)) (sym f)))
