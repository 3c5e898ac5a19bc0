-- The tokens of a text are those that it is spelled with.
use Rattle.std.proofs.Common.{◌≡◌, ℕ, zero, suc, ◌≤◌, ◌<◌, List, [], ◌∷◌, ◌++◌, length, Some, None, refl, sym, ap, ◌∙◌, arith, append_assoc, length-append}
use Rattle.std.proofs.lemmas.Option.{none-some}
use Rattle.alg_certificate.specs.Numbers.{Read}
use Rattle.alg_certificate.specs.Tokens.{Tok, Blank, Close, Semi, Open, Lit, Var, Word, token_bytes, Good, read_token}
use Rattle.alg_certificate.specs.Spelling.{bytes}
use Rattle.alg_certificate.specs.Lexed.{Lexed, with_token, tokens_by, tokens}
use Rattle.alg_certificate.proofs.LexingLaws.{IsFirst, token_sound, token_complete}
use Rattle.alg_certificate.proofs.ApartLaws.{Separated}

some_byte : (t : Tok) → Good t → 0 < length (token_bytes t)
some_byte Blank g = omega arith
some_byte Close g = omega arith
some_byte Semi g = omega arith
some_byte (Open w) g = omega arith
some_byte (Lit s n) g = omega arith
some_byte (Var k) g = omega arith
some_byte (Word []) g = cc
some_byte (Word (c ∷ cs)) g = omega arith

pub shorter : (text : List ℕ) (t : Tok) (rest : List ℕ) → IsFirst text t rest → length rest < length text
shorter text t rest f = omega (arith, ap length f.whole, length-append (token_bytes t) rest, some_byte t f.good)

fuel_by : (text : List ℕ) (n m : ℕ) (o : Read Tok) → read_token text ≡ o → ((rest : List ℕ) → length rest < length text → tokens_by n rest ≡ tokens_by m rest) → with_token o text (tokens_by n) ≡ with_token o text (tokens_by m)
fuel_by text n m None e ih = refl
fuel_by text n m (Some (t, rest)) e ih = ap (λ (x : Lexed). (t ∷ x.0, x.1)) (ih rest (shorter text t rest (token_sound text t rest e)))

none_read : read_token [] ≡ None
unfolding read_token
none_read = refl

empty_tokens : (n : ℕ) → tokens_by n [] ≡ ([], [])
unfolding tokens_by
empty_tokens zero = refl
empty_tokens (suc n) = ap (λ o. with_token o [] (tokens_by n)) none_read

-- any fuel that is enough
pub enough : (n m : ℕ) (text : List ℕ) → length text ≤ n → length text ≤ m → tokens_by n text ≡ tokens_by m text
unfolding tokens_by
enough n m [] p q = empty_tokens n ∙ sym (empty_tokens m)
enough zero m (c ∷ cs) p q = absurd (omega arith)
enough (suc n) zero (c ∷ cs) p q = absurd (omega arith)
enough (suc n) (suc m) (c ∷ cs) p q = fuel_by (c ∷ cs) n m _ refl (λ rest h. enough n m rest (omega arith) (omega arith))

-- one step, as the code takes it
pub next_some : (text : List ℕ) (t : Tok) (rest : List ℕ) → read_token text ≡ Some (t, rest) → tokens text ≡ (t ∷ (tokens rest).0, (tokens rest).1)
unfolding tokens_by
next_some [] t rest e = absurd (none-some _ (sym none_read ∙ e))
next_some (c ∷ cs) t rest e =
    let less = shorter (c ∷ cs) t rest (token_sound (c ∷ cs) t rest e) in
    ap (λ o. with_token o (c ∷ cs) (tokens_by (length cs))) e
    ∙ ap (λ (x : Lexed). (t ∷ x.0, x.1)) (enough (length cs) (length rest) rest (omega arith) (omega arith))

pub next_none : (text : List ℕ) → read_token text ≡ None → tokens text ≡ ([], text)
unfolding tokens_by
next_none [] e = refl
next_none (c ∷ cs) e = ap (λ o. with_token o (c ∷ cs) (tokens_by (length cs))) e

abbrev pub AllGood : List Tok → Type 0
AllGood [] = Unit {0}
AllGood (t ∷ ts) = Good t × AllGood ts

pub record AreTokens (text : List ℕ) (x : Lexed) : Type 0 where
  pub whole : text ≡ bytes x.0 ++ x.1
  pub good : AllGood x.0

sound_by : (text : List ℕ) (n : ℕ) (o : Read Tok) → read_token text ≡ o → ((rest : List ℕ) → AreTokens rest (tokens_by n rest)) → AreTokens text (with_token o text (tokens_by n))
sound_by text n None e ih = record { whole = refl; good = tt }
sound_by text n (Some (t, rest)) e ih =
    let f = token_sound text t rest e in
    let more = ih rest in
    record { whole = f.whole ∙ (ap (λ x. token_bytes t ++ x) more.whole ∙ sym (append_assoc (token_bytes t) (bytes (tokens_by n rest).0) (tokens_by n rest).1)); good = (f.good, more.good) }

-- SOUND
pub tokens_sound : (n : ℕ) (text : List ℕ) → AreTokens text (tokens_by n text)
unfolding tokens_by
tokens_sound zero text = record { whole = refl; good = tt }
tokens_sound (suc n) text = sound_by text n _ refl (tokens_sound n)

-- COMPLETE
pub tokens_complete : (ts : List Tok) → Separated ts → tokens (bytes ts) ≡ (ts, [])
unfolding tokens_by
tokens_complete [] s = refl
tokens_complete (t ∷ ts) s =
    next_some (bytes (t ∷ ts)) t (bytes ts) (token_complete t (bytes ts) s.0 s.1)
    ∙ ap (λ (x : Lexed). (t ∷ x.0, x.1)) (tokens_complete ts s.2)
