-- The loop over the tokens that name something.
use Rattle.std.proofs.Common.{◌≡◌, ℕ, true, false, ◌&&◌, List, [], ◌∷◌, Some, None, refl, ap, ◌∙◌}
use Rattle.alg_law.specs.Declarations.{Declaration}
use Rattle.alg_certificate.specs.Tokens.{Tok, read_token}
use Rattle.alg_certificate.specs.Lexed.{Lexed, tokens}
use Rattle.alg_certificate.proofs.TokenLaws.{next_some, next_none}
use Rattle.alg_certificate_lines.specs.Known.{token_known, tokens_known}

pub known_more : (ds : List Declaration) (t : Tok) (ts : List Tok) → tokens_known ds (t ∷ ts) ≡ (token_known ds t && tokens_known ds ts)
unfolding tokens_known
known_more ds t ts = refl

pub known_end : (ds : List Declaration) → tokens_known ds [] ≡ true
unfolding tokens_known
known_end ds = refl

pub known_step : (ds : List Declaration) (text : List ℕ) (t : Tok) (rest : List ℕ) → read_token text ≡ Some (t, rest) → tokens_known ds (tokens text).0 ≡ (token_known ds t && tokens_known ds (tokens rest).0)
known_step ds text t rest e = ap (λ (x : Lexed). tokens_known ds x.0) (next_some text t rest e) ∙ known_more ds t (tokens rest).0

pub known_over : (ds : List Declaration) (text : List ℕ) → read_token text ≡ None → tokens_known ds (tokens text).0 ≡ true
known_over ds text e = ap (λ (x : Lexed). tokens_known ds x.0) (next_none text e) ∙ known_end ds

pub known_stop : (ds : List Declaration) (all text : List ℕ) (t : Tok) (rest : List ℕ) → tokens_known ds (tokens all).0 ≡ tokens_known ds (tokens text).0 → read_token text ≡ Some (t, rest) → token_known ds t ≡ false → tokens_known ds (tokens all).0 ≡ false
known_stop ds all text t rest h e d = h ∙ (known_step ds text t rest e ∙ ap (λ b. b && tokens_known ds (tokens rest).0) d)

pub known_on : (ds : List Declaration) (all text : List ℕ) (t : Tok) (rest : List ℕ) → tokens_known ds (tokens all).0 ≡ tokens_known ds (tokens text).0 → read_token text ≡ Some (t, rest) → token_known ds t ≡ true → tokens_known ds (tokens all).0 ≡ tokens_known ds (tokens rest).0
known_on ds all text t rest h e d = h ∙ (known_step ds text t rest e ∙ ap (λ b. b && tokens_known ds (tokens rest).0) d)
