-- The text of what is written is cut into its tokens.
use Rattle.std.proofs.Common.{◌≡◌, ℕ, ◌^◌, ◌<◌, List, [], ◌∷◌, ◌++◌, length, Bool, true, false, ◌&&◌, ◌||◌, refl, sym, ap, subst, ◌∙◌, arith, append_assoc, append-nil, cond, nat_eq}
use Rattle.std.specs.Prelude.{◌==◌, None}
use Rattle.std.specs.Fmt.{decimal}
use Rattle.std.specs.List.{list_all}
use Rattle.std.specs.Str.{chars, IsUtf8}
use Rattle.std.proofs.lemmas.Str.{chars-nil, chars-append, chars-IsAscii, IsUtf8-from_ascii}
use Rattle.std.proofs.lemmas.Fmt.{decimal_is_IsNumeral_wide, IsAscii-decimal_wide}
use Rattle.std.proofs.lemmas.Bool.{and_parts, false≢true}
use Rattle.unicode_ident.proofs.Computing.{unicode_ident}
use Rattle.alg_lex.specs.declared.scan.Piece.TheVariants.{Sign as SignPiece}
use Rattle.alg_lex.specs.Characters.{is_digit, is_start, is_continue, first}
use Rattle.alg_lex.specs.Tokens.{is_name, is_name_tail, is_mark}
use Rattle.alg_lex.specs.Items.{items_from, beginning}
use Rattle.alg_commands.specs.Items.{first_fault, signs_of}
use Rattle.alg_syntax.specs.Written.{Written}
use Rattle.alg_syntax.specs.declared.signs.Operator as operators
use Rattle.alg_syntax.specs.declared.signs.Operator.TheVariants as o
use Rattle.alg_terms.specs.declared.relations.Rel.{Rel}
use Rattle.alg_terms.specs.declared.relations.Rel.TheVariants as rel
use Rattle.alg_syntax.specs.declared.signs.Sign.{Sign}
use Rattle.alg_syntax.specs.declared.signs.Sign.TheVariants.{Number, Name, Open, Close, Operator, Inverse, Relation, Fixed}
use Rattle.alg_syntax.specs.declared.signs.Fixed.TheVariants.{Colon}
use Rattle.alg_syntax.specs.Expressions.{Tree, number, name, group, ascribed, minus, inverse, binary, apply, spell}
use Rattle.alg_show.specs.Notation.{operator_text, relation_text, relation_of}
use Rattle.alg_show.specs.Text.{text, inverse_text}
use Rattle.alg_show.specs.Groups.{first_minus}
use Rattle.alg_show.specs.ReadingBack.{IsNamed}
use Rattle.alg_show.proofs.Passing.{Passes, both, blank, mark, mark_blank, front, front_of, blank_front, other, literal, all_digits, name as name_passes}

-- a name in the middle of a line
abbrev pub IsWord : Written → Type 0
IsWord w = (w.begins_line ≡ false) × IsNamed w.text

-- on one line, with narrow literals and names of the notation, and no two minuses meet
abbrev pub Legible : Tree → Type 0
Legible (number f n) = (f ≡ false) × (n < 2 ^ 127)
Legible (name w) = IsWord w
Legible (group f a) = (f ≡ false) × Legible a
Legible (ascribed f a w) = (f ≡ false) × (Legible a × IsWord w)
Legible (minus a) = (first_minus a ≡ false) × Legible a
Legible (inverse a) = Legible a
Legible (binary o a b) = Legible a × Legible b
Legible (apply a b) = Legible a × Legible b

-- nothing that a literal or a name goes on with
pub record Ends (rest : List ℕ) : Type 0 where
  pub dot : (front rest == 46) ≡ false
  pub more : is_continue (front rest) ≡ false
  pub digit : is_digit (front rest) ≡ false

ends_at : (rest : List ℕ) (c : ℕ) → front rest ≡ c → (c == 46) ≡ false → is_continue c ≡ false → is_digit c ≡ false → Ends rest
ends_at rest c e f g h = record { dot = ap (λ (x : ℕ). x == 46) e ∙ f; more = ap is_continue e ∙ g; digit = ap is_digit e ∙ h }

open_utf8 : IsUtf8 (40 ∷ [])
unfolding lib.Utf8.encode
open_utf8 = (40 ∷ [], (refl, refl))

close_utf8 : IsUtf8 (41 ∷ [])
unfolding lib.Utf8.encode
close_utf8 = (41 ∷ [], (refl, refl))

inverse_utf8 : IsUtf8 inverse_text
unfolding lib.Utf8.encode
inverse_utf8 = (0x207B ∷ 0xB9 ∷ [], (refl, refl))

dash_utf8 : IsUtf8 (45 ∷ [])
unfolding lib.Utf8.encode
dash_utf8 = (45 ∷ [], (refl, refl))

pub ends_blank : (rest : List ℕ) → Ends (32 ∷ rest)
unfolding unicode_ident
ends_blank rest = ends_at (32 ∷ rest) 32 (blank_front rest) refl refl refl

ends_close : (rest : List ℕ) → Ends (41 ∷ rest)
unfolding unicode_ident close_utf8
ends_close rest = ends_at (41 ∷ rest) 41 (front_of (41 ∷ []) rest 41 [] close_utf8 refl) refl refl refl

ends_inverse : (rest : List ℕ) → Ends (inverse_text ++ rest)
unfolding unicode_ident inverse_utf8
ends_inverse rest = ends_at (inverse_text ++ rest) 0x207B (front_of inverse_text rest 0x207B (0xB9 ∷ []) inverse_utf8 refl) refl refl refl

pub ends_nil : Ends []
unfolding unicode_ident
ends_nil = ends_at [] 0 (ap first chars-nil) refl refl refl

-- ---- marks

opens : (rest : List ℕ) → Passes (40 ∷ []) (Open false ∷ []) rest
unfolding unicode_ident open_utf8
opens rest = mark (40 ∷ []) rest 40 [] open_utf8 refl refl refl refl refl

closes : (rest : List ℕ) → Passes (41 ∷ []) (Close ∷ []) rest
unfolding unicode_ident close_utf8
closes rest = mark (41 ∷ []) rest 41 [] close_utf8 refl refl refl refl refl

inverts : (rest : List ℕ) → Passes inverse_text (Inverse ∷ []) rest
unfolding unicode_ident inverse_utf8
inverts rest = mark inverse_text rest 0x207B (0xB9 ∷ []) inverse_utf8 refl refl refl refl refl

pub colon : (rest : List ℕ) → Passes (58 ∷ []) (Fixed Colon ∷ []) (32 ∷ rest)
unfolding unicode_ident lib.Utf8.encode
colon rest = mark_blank (58 ∷ []) rest 58 (58 ∷ [], (refl, refl)) refl refl refl refl refl

dash_mark : (x : ℕ) → nat_eq x 62 ≡ false → is_mark (45 ∷ x ∷ []) ≡ false
dash_mark x e = ap (λ b. (b && true) || false) e

dashes : (rest : List ℕ) → (front rest == 45) ≡ false → nat_eq (front rest) 62 ≡ false → Passes (45 ∷ []) (Operator o.Sub ∷ []) rest
unfolding unicode_ident dash_utf8
dashes rest e f = mark (45 ∷ []) rest 45 [] dash_utf8 refl refl e refl (ap (λ b. cond b (SignPiece, 1) (SignPiece, 0)) (dash_mark (front rest) f))

operates : (p : operators.Operator) (rest : List ℕ) → Passes (operator_text p) (Operator p ∷ []) (32 ∷ rest)
unfolding unicode_ident lib.Utf8.encode
operates o.Add rest = mark_blank (43 ∷ []) rest 43 (43 ∷ [], (refl, refl)) refl refl refl refl refl
operates o.Sub rest = mark_blank (45 ∷ []) rest 45 (45 ∷ [], (refl, refl)) refl refl refl refl refl
operates o.Mul rest = mark_blank (42 ∷ []) rest 42 (42 ∷ [], (refl, refl)) refl refl refl refl refl
operates o.Div rest = mark_blank (47 ∷ []) rest 47 (47 ∷ [], (refl, refl)) refl refl refl refl refl
operates o.Mod rest = mark_blank (37 ∷ []) rest 37 (37 ∷ [], (refl, refl)) refl refl refl refl refl
operates o.Smul rest = mark_blank (operator_text o.Smul) rest 0x2022 (0x2022 ∷ [], (refl, refl)) refl refl refl refl refl
operates o.Pow rest = mark_blank (94 ∷ []) rest 94 (94 ∷ [], (refl, refl)) refl refl refl refl refl

relates : (r : Rel) (rest : List ℕ) → Passes (relation_text r) (Relation (relation_of r) ∷ []) (32 ∷ rest)
unfolding unicode_ident lib.Utf8.encode
relates rel.Eq rest = mark_blank (61 ∷ []) rest 61 (61 ∷ [], (refl, refl)) refl refl refl refl refl
relates rel.Ne rest = mark_blank (relation_text rel.Ne) rest 0x2260 (0x2260 ∷ [], (refl, refl)) refl refl refl refl refl
relates rel.Lt rest = mark_blank (60 ∷ []) rest 60 (60 ∷ [], (refl, refl)) refl refl refl refl refl
relates rel.Le rest = mark_blank (relation_text rel.Le) rest 0x2264 (0x2264 ∷ [], (refl, refl)) refl refl refl refl refl
relates rel.Dvd rest = mark_blank (relation_text rel.Dvd) rest 0x2223 (0x2223 ∷ [], (refl, refl)) refl refl refl refl refl

-- ---- names and fronts

word_passes : (w : Written) (rest : List ℕ) → IsWord w → Ends rest → Passes w.text (Name w ∷ []) rest
word_passes w rest h e =
    subst (λ (b : Bool). Passes w.text (Name (record { begins_line = b; text = w.text }) ∷ []) rest) (sym h.0) (name_passes w.text rest h.1 e.dot e.more)

-- no minus, and no end of an arrow
abbrev IsPlain : ℕ → Type 0
IsPlain c = ((c == 45) ≡ false) × (nat_eq c 62 ≡ false)

plain_at : (x c : ℕ) → x ≡ c → IsPlain c → IsPlain x
plain_at x c e h = subst IsPlain (sym e) h

plain_start : (c : ℕ) → is_start c ≡ true → IsPlain c
unfolding unicode_ident
plain_start c h = (other is_start 45 c refl h, other is_start 62 c refl h)

plain_digit : (c : ℕ) → is_digit c ≡ true → IsPlain c
plain_digit c h = (other is_digit 45 c refl h, other is_digit 62 c refl h)

plain_name : (t rest : List ℕ) → IsNamed t → IsPlain (front (t ++ rest))
plain_name t rest n = by (chars t) refl
  where
    by : (cs : List ℕ) → chars t ≡ cs → IsPlain (front (t ++ rest))
    by [] h = absurd (false≢true (ap is_name (sym h) ∙ n.name))
    by (c ∷ cs) h = plain_at (front (t ++ rest)) c (ap first (chars-append t rest n.utf8 ∙ ap (λ x. x ++ chars rest) h)) (plain_start c (and_parts (is_start c) (is_name_tail cs) (ap is_name (sym h) ∙ n.name)).0)

plain_number : (n : ℕ) (rest : List ℕ) → n < 2 ^ 127 → IsPlain (front (decimal n ++ rest))
plain_number n rest l = by (decimal n) refl
  where
    by : (cs : List ℕ) → decimal n ≡ cs → IsPlain (front (decimal n ++ rest))
    by [] h = absurd (omega (arith, ap length h, (decimal_is_IsNumeral_wide n (omega arith)).0.0))
    by (c ∷ cs) h =
        plain_at (front (decimal n ++ rest)) c
        (ap first (chars-append (decimal n) rest (IsUtf8-from_ascii (decimal n) (IsAscii-decimal_wide n (omega arith))) ∙ ap (λ x. x ++ chars rest) (chars-IsAscii (decimal n) (IsAscii-decimal_wide n (omega arith)) ∙ h)))
        (plain_digit c (and_parts (is_digit c) (list_all is_digit cs) (ap (list_all is_digit) (sym h) ∙ all_digits (decimal n) (decimal_is_IsNumeral_wide n (omega arith)).0.1)).0)

plain_open : (rest : List ℕ) → IsPlain (front (40 ∷ rest))
unfolding open_utf8
plain_open rest = plain_at (front (40 ∷ rest)) 40 (front_of (40 ∷ []) rest 40 [] open_utf8 refl) (refl, refl)

plain_front : (a : Tree) (rest : List ℕ) → Legible a → first_minus a ≡ false → IsPlain (front (text a ++ rest))
plain_front (number f n) rest h e = plain_number n rest h.1
plain_front (name w) rest h e = plain_name w.text rest h.1
plain_front (group f a) rest h e = plain_open _
plain_front (ascribed f a w) rest h e = plain_open _
plain_front (minus a) rest h e = absurd (false≢true (sym e))
plain_front (inverse a) rest h e = subst (λ (s : List ℕ). IsPlain (front s)) (sym (append_assoc (text a) _ rest)) (plain_front a _ h e)
plain_front (binary o a b) rest h e = subst (λ (s : List ℕ). IsPlain (front s)) (sym (append_assoc (text a) _ rest)) (plain_front a _ h.0 e)
plain_front (apply a b) rest h e = subst (λ (s : List ℕ). IsPlain (front s)) (sym (append_assoc (text a) _ rest)) (plain_front a _ h.0 e)

-- ---- trees

begun : (f : Bool) (t : List ℕ) (ts : List Sign) (rest : List ℕ) → f ≡ false → Passes t (Open false ∷ ts) rest → Passes t (Open f ∷ ts) rest
begun f t ts rest e p = subst (λ (b : Bool). Passes t (Open b ∷ ts) rest) (sym e) p

pub passes : (a : Tree) (rest : List ℕ) → Legible a → Ends rest → Passes (text a) (spell a) rest
passes (number f n) rest h e = subst (λ (b : Bool). Passes (decimal n) (Number b n ∷ []) rest) (sym h.0) (literal n rest h.1 e.digit)
passes (name w) rest h e = word_passes w rest h e
passes (group f a) rest h e =
    begun f _ _ rest h.0
    (both (40 ∷ []) (text a ++ 41 ∷ []) (Open false ∷ []) (spell a ++ Close ∷ []) rest (opens _)
    (both (text a) (41 ∷ []) (spell a) (Close ∷ []) rest (passes a (41 ∷ rest) h.1 (ends_close rest)) (closes rest)))
passes (ascribed f a w) rest h e =
    begun f _ _ rest h.0
    (both (40 ∷ []) (text a ++ (32 ∷ 58 ∷ 32 ∷ (w.text ++ 41 ∷ []))) (Open false ∷ []) (spell a ++ Fixed Colon ∷ Name w ∷ Close ∷ []) rest (opens _)
    (both (text a) (32 ∷ 58 ∷ 32 ∷ (w.text ++ 41 ∷ [])) (spell a) (Fixed Colon ∷ Name w ∷ Close ∷ []) rest (passes a _ h.1.0 (ends_blank _))
    (both (32 ∷ []) (58 ∷ 32 ∷ (w.text ++ 41 ∷ [])) [] (Fixed Colon ∷ Name w ∷ Close ∷ []) rest (blank _)
    (both (58 ∷ []) (32 ∷ (w.text ++ 41 ∷ [])) (Fixed Colon ∷ []) (Name w ∷ Close ∷ []) rest (colon _)
    (both (32 ∷ []) (w.text ++ 41 ∷ []) [] (Name w ∷ Close ∷ []) rest (blank _)
    (both w.text (41 ∷ []) (Name w ∷ []) (Close ∷ []) rest (word_passes w (41 ∷ rest) h.1.1 (ends_close rest)) (closes rest)))))))
passes (minus a) rest h e =
    let p = plain_front a rest h.1 h.0 in
    both (45 ∷ []) (text a) (Operator o.Sub ∷ []) (spell a) rest (dashes (text a ++ rest) p.0 p.1) (passes a rest h.1 e)
passes (inverse a) rest h e =
    both (text a) inverse_text (spell a) (Inverse ∷ []) rest (passes a _ h (ends_inverse rest)) (inverts rest)
passes (binary p a b) rest h e =
    both (text a) (32 ∷ (operator_text p ++ (32 ∷ text b))) (spell a) (Operator p ∷ spell b) rest (passes a _ h.0 (ends_blank _))
    (both (32 ∷ []) (operator_text p ++ (32 ∷ text b)) [] (Operator p ∷ spell b) rest (blank _)
    (both (operator_text p) (32 ∷ text b) (Operator p ∷ []) (spell b) rest (operates p (text b ++ rest))
    (both (32 ∷ []) (text b) [] (spell b) rest (blank _) (passes b rest h.1 e))))
passes (apply a b) rest h e =
    both (text a) (32 ∷ text b) (spell a) (spell b) rest (passes a _ h.0 (ends_blank _))
    (both (32 ∷ []) (text b) [] (spell b) rest (blank _) (passes b rest h.1 e))

-- a relation between two
pub sides_pass : (a b : Tree) (r : Rel) (rest : List ℕ) → Legible a → Legible b → Ends rest → Passes (text a ++ (32 ∷ (relation_text r ++ (32 ∷ text b)))) (spell a ++ Relation (relation_of r) ∷ spell b) rest
sides_pass a b r rest h k e =
    both (text a) (32 ∷ (relation_text r ++ (32 ∷ text b))) (spell a) (Relation (relation_of r) ∷ spell b) rest (passes a _ h (ends_blank _))
    (both (32 ∷ []) (relation_text r ++ (32 ∷ text b)) [] (Relation (relation_of r) ∷ spell b) rest (blank _)
    (both (relation_text r) (32 ∷ text b) (Relation (relation_of r) ∷ []) (spell b) rest (relates r (text b ++ rest))
    (both (32 ∷ []) (text b) [] (spell b) rest (blank _) (passes b rest k e))))

-- nothing stands behind it
pub all_signs : (t : List ℕ) (ls : List Sign) → Passes t ls [] → (first_fault (items_from beginning (chars t)) ≡ None) × (signs_of (items_from beginning (chars t)) ≡ ls)
unfolding Rattle.alg_lex.specs.Items.items
all_signs t ls p =
    let x = p.go beginning refl in
    let n = append-nil t in
    let z : items_from x.place (chars []) ≡ [] = ap (items_from x.place) chars-nil in (
      ap (λ s. first_fault (items_from beginning (chars s))) (sym n) ∙ (x.faults ∙ ap first_fault z),
      ap (λ s. signs_of (items_from beginning (chars s))) (sym n) ∙ (x.signs ∙ (ap (λ s. ls ++ signs_of s) z ∙ append-nil ls)),
    )
