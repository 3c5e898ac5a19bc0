-- Bytes have one list of tokens.
use Rattle.std.proofs.Common.{◌≡◌, ℕ, List, [], ◌∷◌, ◌++◌, refl, sym}
use Rattle.alg_certificate.specs.Tokens.{Tok, Blank, Close, Semi, Open, Lit, Var, Word, token_bytes, Good}
use Rattle.alg_certificate.specs.Spelling.{bytes}
use Rattle.alg_certificate.proofs.LexingLaws.{Stops, one_token}

-- each token is followed by a byte that doesn't go on with it
abbrev pub Separated : List Tok → Type 0
Separated [] = Unit {0}
Separated (t ∷ ts) = Good t × Stops t (bytes ts) × Separated ts

no_bytes : (t : Tok) (xs : List ℕ) → Good t → [] ≡ token_bytes t ++ xs → ⊥
no_bytes Blank xs g e = cc
no_bytes Close xs g e = cc
no_bytes Semi xs g e = cc
no_bytes (Open w) xs g e = cc
no_bytes (Lit s n) xs g e = cc
no_bytes (Var k) xs g e = cc
no_bytes (Word []) xs g e = cc
no_bytes (Word (c ∷ cs)) xs g e = cc

-- bytes have one list of tokens
pub one_list : (ts us : List Tok) → Separated ts → Separated us → bytes ts ≡ bytes us → ts ≡ us
one_list [] [] p q e = refl
one_list [] (u ∷ us) p q e = absurd (no_bytes u (bytes us) q.0 e)
one_list (t ∷ ts) [] p q e = absurd (no_bytes t (bytes ts) p.0 (sym e))
one_list (t ∷ ts) (u ∷ us) p q e =
    let r = one_token t u (bytes ts) (bytes us) p.0 q.0 p.1 q.1 e in
    let tail = one_list ts us p.2 q.2 r.1 in
    let head : t ≡ u = r.0 in
    cc
