-- The loop over the tokens of a line's items.
use Rattle.std.proofs.Common.{◌≡◌, ℕ, ◌+◌, ◌≤◌, Bool, true, false, ◌&&◌, List, [], ◌∷◌, length, Option, Some, None, refl, ap, subst, ◌∙◌, arith, zero, suc, if◌then◌else◌}
use Rattle.alg_certificate.specs.declared.patterns.Part.{Part}
use Rattle.alg_certificate.specs.declared.walks.Spot.{Spot}
use Rattle.alg_certificate.specs.declared.walks.Spot.TheVariants.{Between, Before, Opened, Beginning, Ended}
use Rattle.alg_certificate.specs.Tokens.{Tok, Blank, Close, Semi, Open, Lit, Var, Word, read_token}
use Rattle.alg_certificate.specs.Lexed.{Lexed, tokens}
use Rattle.alg_certificate.specs.Cutting.{is_empty}
use Rattle.alg_certificate.specs.Words.{is_sort, is_symbol}
use Rattle.alg_certificate.specs.Walks.{Standing, first_fit, opens, begun, closed, in_tree, after_tree, at_blank, moved, may_stop_at, go, walks, walks_all, allows}
use Rattle.alg_certificate.proofs.LexingLaws.{token_sound}
use Rattle.alg_certificate.proofs.TokenLaws.{next_some, next_none, shorter}

pub record Walked (all : List ℕ) (parts : List Part) (p : Spot) (d : ℕ) (ps : List Part) (left : List ℕ) : Type 0 where
  pub same : allows parts all ≡ walks_all (tokens left) p d ps
  pub low : d + length left ≤ length all

pub begun_walk : (all : List ℕ) (parts : List Part) → Walked all parts Between 0 parts all
begun_walk all parts = record { same = refl; low = omega arith }

walks_end : (p : Spot) (d : ℕ) (ps : List Part) → walks [] p d ps ≡ may_stop_at p ps
unfolding walks
walks_end p d ps = refl

walks_step : (t : Tok) (ts : List Tok) (p : Spot) (d : ℕ) (ps : List Part) → walks (t ∷ ts) p d ps ≡ go (moved p d ps t) (walks ts)
unfolding walks
walks_step t ts p d ps = refl

pub at_over : (all : List ℕ) (parts : List Part) (p : Spot) (d : ℕ) (ps : List Part) (left : List ℕ) → Walked all parts p d ps left → read_token left ≡ None → allows parts all ≡ (is_empty left && may_stop_at p ps)
at_over all parts p d ps left h e = h.same ∙ (ap (λ (x : Lexed). walks_all x p d ps) (next_none left e) ∙ ap (λ b. is_empty left && b) (walks_end p d ps))

one_step : (all : List ℕ) (parts : List Part) (p : Spot) (d : ℕ) (ps : List Part) (left : List ℕ) (t : Tok) (rest : List ℕ) → Walked all parts p d ps left → read_token left ≡ Some (t, rest)
    → allows parts all ≡ (is_empty (tokens rest).1 && go (moved p d ps t) (walks (tokens rest).0))
one_step all parts p d ps left t rest h e = h.same ∙ (ap (λ (x : Lexed). walks_all x p d ps) (next_some left t rest e) ∙ ap (λ b. is_empty (tokens rest).1 && b) (walks_step t (tokens rest).0 p d ps))

and_false : (b : Bool) → (b && false) ≡ false
and_false true = refl
and_false false = refl

pub at_fail : (all : List ℕ) (parts : List Part) (p : Spot) (d : ℕ) (ps : List Part) (left : List ℕ) (t : Tok) (rest : List ℕ) → Walked all parts p d ps left → read_token left ≡ Some (t, rest) → moved p d ps t ≡ None → allows parts all ≡ false
at_fail all parts p d ps left t rest h e m =
    one_step all parts p d ps left t rest h e ∙ (ap (λ o. is_empty (tokens rest).1 && go o (walks (tokens rest).0)) m ∙ and_false (is_empty (tokens rest).1))

-- at most one more node is open
abbrev Rises : ℕ → Option Standing → Type 0
Rises d None = Unit {0}
Rises d (Some x) = x.1 ≤ d + 1

closed_rises : (d : ℕ) (ps : List Part) → Rises d (closed d ps)
closed_rises zero ps = tt
closed_rises (suc zero) ps = omega arith
closed_rises (suc (suc d)) ps = omega arith

blank_rises : (p : Spot) (d e : ℕ) (ps : List Part) (t : Tok) → e ≤ d + 1 → Rises d (at_blank p e ps t)
blank_rises p d e ps Blank h = h
blank_rises p d e ps Close h = tt
blank_rises p d e ps Semi h = tt
blank_rises p d e ps (Open w) h = tt
blank_rises p d e ps (Lit w n) h = tt
blank_rises p d e ps (Var k) h = tt
blank_rises p d e ps (Word w) h = tt

if_rises : (d : ℕ) (b : Bool) (x y : Option Standing) → Rises d x → Rises d y → Rises d (if b then x else y)
if_rises d true x y p q = p
if_rises d false x y p q = q

begun_rises : (d : ℕ) (t : Tok) (o : Option (List Part)) → Rises d (begun t o)
begun_rises d t None = tt
begun_rises d t (Some ps) = if_rises d (opens t) (Some (Opened, 1, ps)) (Some (Between, 0, ps)) (omega arith) (omega arith)

in_rises : (d : ℕ) (ps : List Part) (t : Tok) → Rises d (in_tree d ps t)
in_rises d ps Blank = tt
in_rises d ps Close = tt
in_rises d ps Semi = tt
in_rises d ps (Open w) = if_rises d (is_symbol w) (Some (Opened, suc d, ps)) None (omega arith) tt
in_rises d ps (Lit w n) = if_rises d (is_sort w) (Some (Ended, d, ps)) None (omega arith) tt
in_rises d ps (Var k) = omega arith
in_rises d ps (Word w) = tt

after_rises : (d : ℕ) (ps : List Part) (t : Tok) → Rises d (after_tree d ps t)
after_rises d ps Blank = omega arith
after_rises d ps Close = closed_rises d ps
after_rises d ps Semi = tt
after_rises d ps (Open w) = tt
after_rises d ps (Lit w n) = tt
after_rises d ps (Var k) = tt
after_rises d ps (Word w) = tt

rises : (p : Spot) (d : ℕ) (ps : List Part) (t : Tok) → Rises d (moved p d ps t)
rises Between d ps t = blank_rises Before d 0 ps t (omega arith)
rises Before d ps t = begun_rises d t (first_fit ps t)
rises Opened d ps t = blank_rises Beginning d d ps t (omega arith)
rises Beginning d ps t = in_rises d ps t
rises Ended d ps t = after_rises d ps t

pub at_move : (all : List ℕ) (parts : List Part) (p : Spot) (d : ℕ) (ps : List Part) (left : List ℕ) (t : Tok) (rest : List ℕ) (q : Spot) (e : ℕ) (qs : List Part)
    → Walked all parts p d ps left → read_token left ≡ Some (t, rest) → moved p d ps t ≡ Some (q, e, qs) → Walked all parts q e qs rest
at_move all parts p d ps left t rest q e qs h r m =
    let up : e ≤ d + 1 = subst (Rises d) m (rises p d ps t) in
    let less = shorter left t rest (token_sound left t rest r) in
    record {
      same = one_step all parts p d ps left t rest h r ∙ ap (λ o. is_empty (tokens rest).1 && go o (walks (tokens rest).0)) m;
      low = omega (arith, h.low);
    }
