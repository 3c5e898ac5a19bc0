-- The texts of the items are slices of the source.
use Rattle.std.proofs.Common.{◌≡◌, ℕ, zero, suc, ◌+◌, ◌≤◌, List, [], ◌∷◌, ◌++◌, length, take, drop, Bool, true, false, ◌||◌, Option, Some, None, refl, sym, ap, subst, ◌∙◌, arith, length-append, length-drop, append_assoc, cond, ◌^◌}
use Rattle.std.specs.Prelude.{nat_lt, ◌==◌, fold}
use Rattle.std.specs.Str.{chars, encode_utf8_all, IsUtf8}
use Rattle.std.specs.Str.Parse.{digits_value}
use Rattle.std.proofs.lemmas.Str.{encodes-chars, encodes-append}
use Rattle.std.proofs.lemmas.List.{take-append-drop, drop-append-le}
use Rattle.std.proofs.lemmas.Bool.{lt-ltb}
use Rattle.std.proofs.Math.Seq.{drop-append_seam, take-append_seam}
use Rattle.alg_lex.specs.declared.LexFault.TheVariants.{LiteralTooWide}
use Rattle.alg_lex.specs.declared.Kind.TheVariants.{Literal}
use Rattle.alg_lex.specs.declared.scan.Piece.{Piece}
use Rattle.alg_lex.specs.declared.scan.Piece.TheVariants.{Gap, Number, Identifier, Sign, Stray, Unclosed}
use Rattle.alg_lex.specs.Items.{Place, Item, token, fault, beginning, piece, item_at, before, items, items_from, behind, line_feeds}
use Rattle.alg_lex.specs.Slices.{IsSlice, AreSlices}
use Rattle.alg_lex.proofs.Pieces.{piece_some}

-- an item's text and place are those of its piece
abbrev pub Shows : Option Item → List ℕ → Place → Type 0
Shows None bytes p = Unit {0}
Shows (Some (token kind text q)) bytes p = (text ≡ bytes) × (q ≡ p)
Shows (Some (fault cause)) bytes p = Unit {0}

shows_literal : (b : Bool) (value : ℕ) (bytes : List ℕ) (p : Place) → Shows (Some (cond b (token (Literal value) bytes p) (fault (LiteralTooWide p.line)))) bytes p
shows_literal true value bytes p = (refl, refl)
shows_literal false value bytes p = tt

shows : (kind : Piece) (bytes : List ℕ) (p : Place) → Shows (item_at kind bytes p) bytes p
shows Gap bytes p = tt
shows Number bytes p = shows_literal (nat_lt (digits_value 10 bytes) (2 ^ 127)) (digits_value 10 bytes) bytes p
shows Identifier bytes p = (refl, refl)
shows Sign bytes p = (refl, refl)
shows Stray bytes p = tt
shows Unclosed bytes p = tt

-- So much of the source has been passed; the last token ended at the offset `from`.
pub record Passed (source done rest : List ℕ) (from : ℕ) (p : Place) : Type 0 where
  pub whole : source ≡ done ++ rest
  pub at : p.at ≡ length done
  pub line : p.line ≡ 1 + line_feeds done
  pub from_le : from ≤ length done
  pub fresh : p.fresh ≡ nat_lt 0 (line_feeds (drop from done))

counted : (n : ℕ) (xs : List ℕ) → fold (λ (a x : ℕ). a + cond (x == 10) 1 0) n xs ≡ n + line_feeds xs
counted n [] = omega arith
counted n (x ∷ xs) = omega (arith, counted (n + cond (x == 10) 1 0) xs, counted (0 + cond (x == 10) 1 0) xs)

line_feeds-append : (xs ys : List ℕ) → line_feeds (xs ++ ys) ≡ line_feeds xs + line_feeds ys
line_feeds-append [] ys = omega arith
line_feeds-append (x ∷ xs) ys =
    omega (arith, counted (0 + cond (x == 10) 1 0) (xs ++ ys), counted (0 + cond (x == 10) 1 0) xs, line_feeds-append xs ys)

some_of_sum : (a b : ℕ) → (nat_lt 0 a || nat_lt 0 b) ≡ nat_lt 0 (a + b)
some_of_sum zero b = ap (nat_lt 0) (omega arith)
some_of_sum (suc a) b = ap (λ c. c || nat_lt 0 b) (lt-ltb 0 (suc a) (omega arith)) ∙ sym (lt-ltb 0 (suc a + b) (omega arith))

-- behind a piece
pass : (source done front rest : List ℕ) (from : ℕ) (p : Place) → Passed source done (front ++ rest) from p → Passed source (done ++ front) rest from (behind p front)
pass source done front rest from p h = record {
  whole = h.whole ∙ sym (append_assoc done front rest);
  at = (let e = length-append done front in let k = h.at in omega arith);
  line = (let e = line_feeds-append done front in let k = h.line in omega arith);
  from_le = (let e = length-append done front in let k = h.from_le in omega arith);
  fresh = ap (λ b. b || nat_lt 0 (line_feeds front)) h.fresh ∙ (some_of_sum (line_feeds (drop from done)) (line_feeds front)
      ∙ ap (nat_lt 0) (sym (line_feeds-append (drop from done) front) ∙ ap line_feeds (sym (drop-append-le from done front h.from_le))));
}

-- behind a token nothing has been passed since
restart : (source done rest : List ℕ) (from : ℕ) (p : Place) → Passed source done rest from p → Passed source done rest (length done) (record p { fresh = false })
restart source done rest from p h = record { whole = h.whole; at = h.at; line = h.line; from_le = omega arith; fresh = ap (λ x. nat_lt 0 (line_feeds x)) (sym (drop_all done)) }
  where
    drop_all : (xs : List ℕ) → drop (length xs) xs ≡ []
    drop_all [] = refl
    drop_all (x ∷ xs) = drop_all xs

slice_here : (source done front rest : List ℕ) (from : ℕ) (p : Place) → Passed source done (front ++ rest) from p → IsSlice source from front p
slice_here source done front rest from p h = record {
  in_order = (let k = h.at in let l = h.from_le in omega arith);
  slice = ap (λ (n : ℕ). take (length front) (drop n source)) h.at ∙ (ap (λ x. take (length front) (drop (length done) x)) h.whole
      ∙ (ap (take (length front)) (drop-append_seam done (front ++ rest)) ∙ take-append_seam front rest));
  line = h.line ∙ ap (λ x. 1 + line_feeds x) (sym before_here);
  fresh = h.fresh ∙ ap (λ x. nat_lt 0 (line_feeds (drop from x))) (sym before_here);
}
  where
    before_here : take p.at source ≡ done
    before_here = ap (λ (n : ℕ). take n source) h.at ∙ (ap (take (length done)) h.whole ∙ take-append_seam done (front ++ rest))

-- an item, and what comes behind its piece
slices_before : (source done front rest : List ℕ) (from : ℕ) (p : Place) (found : Option Item) (more : Place → List Item) → Shows found front p → Passed source done (front ++ rest) from p → ((from : ℕ) (q : Place) → Passed source (done ++ front) rest from q → AreSlices source from (more q)) → AreSlices source from (before found (behind p front) more)
slices_before source done front rest from p None more s h k = k from (behind p front) (pass source done front rest from p h)
slices_before source done front rest from p (Some (fault cause)) more s h k = k from (behind p front) (pass source done front rest from p h)
slices_before source done front rest from p (Some (token kind text q)) more s h k =
    let after : Place = record (behind p front) { fresh = false } in
    let P : List ℕ → Place → Type 0 = λ t r. IsSlice source from t r × AreSlices source (r.at + length t) (more after) in
    let end : length (done ++ front) ≡ p.at + length front = (let e = length-append done front in let a = h.at in omega arith) in
    let later : AreSlices source (length (done ++ front)) (more after) = k (length (done ++ front)) after (restart source (done ++ front) rest from (behind p front) (pass source done front rest from p h)) in
    subst (λ t. P t q) (sym s.0) (subst (λ r. P front r) (sym s.1)
    (slice_here source done front rest from p h, subst (λ (n : ℕ). AreSlices source n (more after)) end later))

slices : (n : ℕ) (source done text : List ℕ) (from : ℕ) (p : Place) → length text ≤ n → Passed source done (encode_utf8_all text) from p → AreSlices source from (items n p text)
unfolding items
slices zero source done [] from p e h = tt
slices zero source done (c ∷ cs) from p e h = tt
slices (suc n) source done [] from p e h = tt
slices (suc n) source done (c ∷ cs) from p e h =
    let size = (piece (c ∷ cs)).1 in
    let front = encode_utf8_all (take size (c ∷ cs)) in
    let rest = drop size (c ∷ cs) in
    let k = piece_some c cs in
    let l = length-drop size (c ∷ cs) in
    let whole : encode_utf8_all (c ∷ cs) ≡ front ++ encode_utf8_all rest = ap encode_utf8_all (sym (take-append-drop size (c ∷ cs))) ∙ encodes-append (take size (c ∷ cs)) rest in
    slices_before source done front (encode_utf8_all rest) from p (item_at (piece (c ∷ cs)).0 front p) (λ q. items n q rest) (shows (piece (c ∷ cs)).0 front p)
    (subst (λ x. Passed source done x from p) whole h)
    (λ from q m. slices n source (done ++ front) rest from q (omega arith) m)

pub items_from-slices : (source : List ℕ) → IsUtf8 source → AreSlices source 0 (items_from beginning (chars source))
items_from-slices source u =
    slices (length (chars source)) source [] (chars source) 0 beginning (omega arith)
    (record { whole = sym (encodes-chars source u); at = refl; line = refl; from_le = omega arith; fresh = refl })
