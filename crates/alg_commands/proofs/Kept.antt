-- What is kept when one more item was passed.
use Rattle.std.proofs.Common.{◌≡◌, ℕ, ◌≤◌, ◌<◌, List, [], ◌∷◌, ◌++◌, length, take, Some, None, refl, sym, subst, ap, ◌∙◌, arith, length-append}
use Rattle.std.proofs.lemmas.List.{take_all, take-append-le, length-take, map-append}
use Rattle.alg_lex.specs.declared.Token.{Token}
use Rattle.alg_lex.specs.declared.LexFault.{LexFault}
use Rattle.alg_lex.specs.Items.{Item, token, fault}
use Rattle.alg_lex.specs.Answer as answer
use Rattle.alg_syntax.specs.declared.signs.Sign.{Sign}
use Rattle.alg_syntax.specs.Signs.{sign_of, seen, signs}
use Rattle.alg_commands.specs.declared.pieces.Piece.{Piece}
use Rattle.alg_commands.specs.Items.{line_of_item, first_fault, signs_of}
use Rattle.alg_commands.specs.Pieces.{Keeps}

pub first_fault-token : (items : List Item) (t : Token) → first_fault (items ++ answer.seen t ∷ []) ≡ first_fault items
first_fault-token [] t = refl
first_fault-token (token kind text p ∷ items) t = first_fault-token items t
first_fault-token (fault cause ∷ items) t = refl

pub first_fault-first : (items : List Item) (cause : LexFault) → first_fault items ≡ None → first_fault (items ++ fault cause ∷ []) ≡ Some cause
first_fault-first [] cause h = refl
first_fault-first (token kind text p ∷ items) cause h = first_fault-first items cause h
first_fault-first (fault first ∷ items) cause h = cc

pub first_fault-later : (items : List Item) (cause first : LexFault) → first_fault items ≡ Some first → first_fault (items ++ fault cause ∷ []) ≡ Some first
first_fault-later [] cause first h = cc
first_fault-later (token kind text p ∷ items) cause first h = first_fault-later items cause first h
first_fault-later (fault other ∷ items) cause first h = h

pub signs_of-token : (items : List Item) (t : Token) → signs_of (items ++ answer.seen t ∷ []) ≡ signs_of items ++ seen t ∷ []
signs_of-token [] t = refl
signs_of-token (token kind text p ∷ items) t = ap (λ ss. sign_of kind p.fresh text ∷ ss) (signs_of-token items t)
signs_of-token (fault cause ∷ items) t = signs_of-token items t

pub signs_of-fault : (items : List Item) (cause : LexFault) → signs_of (items ++ fault cause ∷ []) ≡ signs_of items
signs_of-fault [] cause = refl
signs_of-fault (token kind text p ∷ items) cause = ap (λ ss. sign_of kind p.fresh text ∷ ss) (signs_of-fault items cause)
signs_of-fault (fault first ∷ items) cause = signs_of-fault items cause

-- fewer than may be kept are all
pub all_kept : (n : ℕ) (kept all : List Sign) → kept ≡ take n all → length kept < n → kept ≡ all
all_kept n kept all e h =
    let l = ap length e in
    let m = length-take n all in
    e ∙ take_all n all (omega arith)

pub one_more : (n : ℕ) (kept all : List Sign) (s : Sign) → kept ≡ take n all → length kept < n → kept ++ s ∷ [] ≡ take n (all ++ s ∷ [])
one_more n kept all s e h =
    let k = all_kept n kept all e h in
    let l = ap length k in
    let m = length-append all (s ∷ []) in
    ap (λ (ss : List Sign). ss ++ s ∷ []) k ∙ sym (take_all n (all ++ s ∷ []) (omega arith))

pub no_more : (n : ℕ) (kept all : List Sign) (s : Sign) → kept ≡ take n all → n ≤ length kept → kept ≡ take n (all ++ s ∷ [])
no_more n kept all s e h =
    let l = ap length e in
    let m = length-take n all in
    e ∙ sym (take-append-le n all (s ∷ []) (omega arith))

pub signs-push : (ts : List Token) (t : Token) → signs (ts ++ t ∷ []) ≡ signs ts ++ seen t ∷ []
signs-push ts t = map-append seen ts (t ∷ [])

pub token_first : (item : Item) (t : Token) (p : Piece) → item ≡ answer.seen t → p.line ≡ line_of_item item → p.fault ≡ None → signs p.tokens.items ≡ take 4097 (seen t ∷ []) → Keeps (item ∷ []) p
token_first item t p e l f k = subst (λ (i : Item). Keeps (i ∷ []) p) (sym e) (record { line = l ∙ ap line_of_item e; fault = f; tokens = k })

pub token_kept : (first : Item) (items : List Item) (t : Token) (p q : Piece)
    → ((all : List Sign) → signs p.tokens.items ≡ take 4097 all → signs q.tokens.items ≡ take 4097 (all ++ seen t ∷ []))
    → q.line ≡ p.line → q.fault ≡ p.fault → Keeps (first ∷ items) p → Keeps (first ∷ (items ++ answer.seen t ∷ [])) q
token_kept first items t p q keeps l f k = record {
  line = l ∙ k.line;
  fault = f ∙ (k.fault ∙ sym (first_fault-token (first ∷ items) t));
  tokens = keeps _ k.tokens ∙ ap (take 4097) (sym (signs_of-token (first ∷ items) t));
}

pub fault_later : (first : Item) (items : List Item) (cause other : LexFault) (p : Piece) → p.fault ≡ Some other → Keeps (first ∷ items) p → Keeps (first ∷ (items ++ fault cause ∷ [])) p
fault_later first items cause other p h k = record {
  line = k.line;
  fault = h ∙ sym (first_fault-later (first ∷ items) cause other (sym k.fault ∙ h));
  tokens = k.tokens ∙ ap (take 4097) (sym (signs_of-fault (first ∷ items) cause));
}

pub fault_here : (first : Item) (items : List Item) (cause : LexFault) (p : Piece) → p.fault ≡ None → Keeps (first ∷ items) p → Keeps (first ∷ (items ++ fault cause ∷ [])) (record p { fault = Some cause })
fault_here first items cause p h k = record {
  line = k.line;
  fault = sym (first_fault-first (first ∷ items) cause (sym k.fault ∙ h));
  tokens = k.tokens ∙ ap (take 4097) (sym (signs_of-fault (first ∷ items) cause));
}
