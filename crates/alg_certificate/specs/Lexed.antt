-- All tokens of a text, as far as they go, and what is left.
use Rattle.std.specs.Prelude.{ℕ, zero, suc, List, [], ◌∷◌, length, Some, None}
use Rattle.alg_certificate.specs.Numbers.{Read}
use Rattle.alg_certificate.specs.Tokens.{Tok, read_token}

abbrev pub Lexed : Type 0
Lexed = List Tok × List ℕ

abbrev pub with_token : Read Tok → List ℕ → (List ℕ → Lexed) → Lexed
with_token None text k = ([], text)
with_token (Some (t, rest)) text k = (t ∷ (k rest).0, (k rest).1)

unfoldable pub tokens_by : ℕ → List ℕ → Lexed
tokens_by zero text = ([], text)
tokens_by (suc n) text = with_token (read_token text) text (tokens_by n)

abbrev pub tokens : List ℕ → Lexed
tokens text = tokens_by (length text) text
