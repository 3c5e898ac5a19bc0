-- One piece after the other.
use Rattle.std.proofs.Common.{◌≡◌, ℕ, zero, suc, ◌+◌, ◌≤◌, ◌<◌, List, [], ◌∷◌, length, take, drop, Bool, false, ◌||◌, Option, Some, None, refl, sym, ap, ◌∙◌, arith, length-drop}
use Rattle.std.specs.Prelude.{nat_lt, ◌==◌}
use Rattle.std.specs.Str.{chars, encode_utf8_all, IsUtf8}
use Rattle.std.proofs.lemmas.Str.{encodes-chars, chars-nil}
use Rattle.std.proofs.lemmas.List.{nil_from_length}
use Rattle.std.proofs.lemmas.Bool.{eqb-false}
use Rattle.alg_lex.specs.declared.Token.{Token}
use Rattle.alg_lex.specs.declared.LexFault.{LexFault}
use Rattle.alg_lex.specs.declared.scan.Piece.{Piece}
use Rattle.alg_lex.specs.Items.{Place, Item, token, fault, piece, item_at, before, items, items_from, behind, line_feeds}
use Rattle.alg_lex.specs.Answer.{seen}
use Rattle.alg_lex.proofs.Pieces.{piece_some}

some_characters : (text : List ℕ) → IsUtf8 text → 0 < length text → chars text ≡ [] → ⊥
some_characters text u s h = let g = ap length (sym (encodes-chars text u) ∙ ap encode_utf8_all h) in absurd (omega arith)

-- a text that isn't empty has a piece that isn't empty
pub piece_of_some : (text : List ℕ) → IsUtf8 text → 0 < length text → 1 ≤ (piece (chars text)).1
piece_of_some text u s = go (chars text) refl
  where
    go : (cs : List ℕ) → chars text ≡ cs → 1 ≤ (piece cs).1
    go [] h = absurd (some_characters text u s h)
    go (c ∷ cs) h = piece_some c cs

before_same : (found : Option Item) (p : Place) (f g : Place → List Item) → ((q : Place) → f q ≡ g q) → before found p f ≡ before found p g
before_same None p f g h = h p
before_same (Some (token kind text here)) p f g h = ap (λ xs. token kind text here ∷ xs) (h (record p { fresh = false }))
before_same (Some (fault cause)) p f g h = ap (λ xs. fault cause ∷ xs) (h p)

-- more turns than characters change nothing
enough : (n m : ℕ) (p : Place) (text : List ℕ) → length text ≤ n → length text ≤ m → items n p text ≡ items m p text
unfolding items
enough zero zero p text a b = refl
enough zero (suc m) p [] a b = refl
enough zero (suc m) p (c ∷ cs) a b = absurd (omega arith)
enough (suc n) zero p [] a b = refl
enough (suc n) zero p (c ∷ cs) a b = absurd (omega arith)
enough (suc n) (suc m) p [] a b = refl
enough (suc n) (suc m) p (c ∷ cs) a b =
    let k = piece_some c cs in
    let l = length-drop (piece (c ∷ cs)).1 (c ∷ cs) in
    before_same _ _ _ _ (λ q. enough n m q (drop (piece (c ∷ cs)).1 (c ∷ cs)) (omega arith) (omega arith))

-- the item of the piece at the front
abbrev pub here : Place → List ℕ → Option Item
here p cs = item_at (piece cs).0 (encode_utf8_all (take (piece cs).1 cs)) p

-- what is to come is the piece here, and what is to come behind it
pub items_step : (p : Place) (c : ℕ) (cs : List ℕ) → items_from p (c ∷ cs) ≡ before (here p (c ∷ cs)) (behind p (encode_utf8_all (take (piece (c ∷ cs)).1 (c ∷ cs)))) (λ q. items_from q (drop (piece (c ∷ cs)).1 (c ∷ cs)))
unfolding items
items_step p c cs =
    let k = piece_some c cs in
    let l = length-drop (piece (c ∷ cs)).1 (c ∷ cs) in
    before_same _ _ _ _ (λ q. enough (length cs) _ q (drop (piece (c ∷ cs)).1 (c ∷ cs)) (omega arith) (omega arith))

pub no_items : (p : Place) (text : List ℕ) → length text ≡ 0 → items_from p (chars text) ≡ []
unfolding items
no_items p text e = ap (λ x. items_from p (chars x)) (nil_from_length text e) ∙ ap (items_from p) chars-nil

-- A piece was cut off a text that isn't empty: what was to come is its item, and what is to come behind it.
pub turn : (all : List Item) (p : Place) (text front rest : List ℕ) (kind : Piece) (found : Option Item) (empty : Bool) → all ≡ items_from p (chars text) → IsUtf8 text → empty ≡ (length text == 0) → empty ≡ false → kind ≡ (piece (chars text)).0 → front ≡ encode_utf8_all (take (piece (chars text)).1 (chars text)) → chars rest ≡ drop (piece (chars text)).1 (chars text) → found ≡ item_at kind front p → all ≡ before found (behind p front) (λ q. items_from q (chars rest))
turn all p text front rest kind found empty e u n m kinds fronts rests item = e ∙ go (chars text) refl
  where
    some : 0 < length text
    some = let k = eqb-false (length text) 0 (sym n ∙ m) in omega arith

    go : (cs : List ℕ) → chars text ≡ cs → items_from p (chars text) ≡ before found (behind p front) (λ q. items_from q (chars rest))
    go [] h = absurd (some_characters text u some h)
    go (c ∷ cs) h =
        let f : found ≡ here p (c ∷ cs) = item ∙ (ap (λ k. item_at k front p) (kinds ∙ ap (λ x. (piece x).0) h) ∙ ap (λ x. item_at (piece (c ∷ cs)).0 x p) (fronts ∙ ap (λ x. encode_utf8_all (take (piece x).1 x)) h)) in
        ap (items_from p) h ∙ (items_step p c cs
        ∙ (ap (λ x. before x (behind p (encode_utf8_all (take (piece (c ∷ cs)).1 (c ∷ cs)))) (λ q. items_from q (drop (piece (c ∷ cs)).1 (c ∷ cs)))) (sym f)
        ∙ (ap (λ x. before found (behind p x) (λ q. items_from q (drop (piece (c ∷ cs)).1 (c ∷ cs)))) (sym (fronts ∙ ap (λ x. encode_utf8_all (take (piece x).1 x)) h))
        ∙ ap (λ x. before found (behind p front) (λ q. items_from q x)) (sym (rests ∙ ap (λ x. drop (piece x).1 x) h)))))

-- the place that the code keeps
abbrev pub behind_by : Place → ℕ → ℕ → Place
behind_by p len feeds = record { at = p.at + len; line = p.line + feeds; fresh = p.fresh || nat_lt 0 feeds }

-- after a blank or a comment, a token, a fault
pub at_gap : (all : List Item) (p : Place) (front rest : List ℕ) (feeds : ℕ) (found : Option Item) → all ≡ before found (behind p front) (λ q. items_from q (chars rest)) → found ≡ None → feeds ≡ line_feeds front → all ≡ items_from (behind_by p (length front) feeds) (chars rest)
at_gap all p front rest feeds found e n f =
    e ∙ (ap (λ o. before o (behind p front) (λ q. items_from q (chars rest))) n ∙ ap (λ (k : ℕ). items_from (behind_by p (length front) k) (chars rest)) (sym f))

pub at_token : (all : List Item) (p : Place) (front rest : List ℕ) (feeds : ℕ) (found : Option Item) (t : Token) → all ≡ before found (behind p front) (λ q. items_from q (chars rest)) → found ≡ Some (seen t) → feeds ≡ line_feeds front → all ≡ seen t ∷ items_from (record { at = p.at + length front; line = p.line + feeds; fresh = false }) (chars rest)
at_token all p front rest feeds found t e n f =
    e ∙ (ap (λ o. before o (behind p front) (λ q. items_from q (chars rest))) n ∙ ap (λ (k : ℕ). seen t ∷ items_from (record { at = p.at + length front; line = p.line + k; fresh = false }) (chars rest)) (sym f))

pub at_fault : (all : List Item) (p : Place) (front rest : List ℕ) (feeds : ℕ) (found : Option Item) (cause : LexFault) → all ≡ before found (behind p front) (λ q. items_from q (chars rest)) → found ≡ Some (fault cause) → feeds ≡ line_feeds front → all ≡ fault cause ∷ items_from (behind_by p (length front) feeds) (chars rest)
at_fault all p front rest feeds found cause e n f =
    e ∙ (ap (λ o. before o (behind p front) (λ q. items_from q (chars rest))) n ∙ ap (λ (k : ℕ). fault cause ∷ items_from (behind_by p (length front) k) (chars rest)) (sym f))
