-- A token of the code, as contracts see it.
use Rattle.std.specs.Prelude.{ℕ, List, Option, option_map}
use Rattle.std.specs.Borrow.{Bor}
use Rattle.alg_certificate.specs.declared.tokens.Token.{Token}
use Rattle.alg_certificate.specs.declared.tokens.Token.TheVariants as code
use Rattle.alg_certificate.specs.Tokens.{Tok, Blank, Close, Semi, Open, Lit, Var, Word}

abbrev pub seen : Token → Tok
seen code.Blank = Blank
seen code.Close = Close
seen code.Semi = Semi
seen (code.Open w) = Open w.now
seen (code.Lit s n) = Lit s.now n
seen (code.Var k) = Var k
seen (code.Word w) = Word w.now

abbrev pub read_seen : Option (Token × Bor (List ℕ)) → Option (Tok × List ℕ)
read_seen o = option_map {U = Tok × List ℕ} (λ x. (seen x.0, x.1.now)) o
