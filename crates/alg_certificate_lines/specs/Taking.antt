-- How trees are built from tokens: the trees that are there, and the nodes that are open, newest first, each with its
-- symbol and the number of trees before its arguments.
use Rattle.std.specs.Prelude.{ℕ, List, [], ◌∷◌, ◌++◌, length, take, drop, Option, Some, None, nat_le, if◌then◌else◌}
use Rattle.alg_terms.specs.declared.sorts.Sort.{Sort}
use Rattle.alg_terms.specs.declared.symbols.Sym.{Sym}
use Rattle.alg_terms.specs.Tree.{Tree, Lit as literal}
use Rattle.alg_law.specs.Declarations.{Declaration}
use Rattle.alg_certificate.specs.Tokens.{Tok, Blank, Close, Semi, Open, Lit, Var, Word}
use Rattle.alg_certificate_lines.specs.Known.{variable_sort}
use Rattle.alg_certificate_lines.specs.Typed.{node_of, variable_of_sort}
use Rattle.alg_certificate_lines.specs.Words.{sort_named, symbol_named}

abbrev pub Opened : Type 0
Opened = List (Sym × ℕ)

abbrev pub Built : Type 0
Built = List Tree × Opened

abbrev pub with_tree : List Tree → Opened → Option Tree → Option Built
with_tree ts os None = None
with_tree ts os (Some t) = Some (ts ++ t ∷ [], os)

abbrev pub literal_in : Option Sort → ℕ → Option Tree
literal_in None n = None
literal_in (Some s) n = Some (literal s n)

abbrev pub opening : List Tree → Opened → Option Sym → Option Built
opening ts os None = None
opening ts os (Some f) = Some (ts, (f, length ts) ∷ os)

abbrev pub closing : List Declaration → List Tree → Opened → Option Built
closing ds ts [] = None
closing ds ts (o ∷ os) = if nat_le o.1 (length ts) then with_tree (take o.1 ts) os (node_of ds o.0 (drop o.1 ts)) else None

abbrev pub taken : List Declaration → Tok → List Tree → Opened → Option Built
taken ds Blank ts os = Some (ts, os)
taken ds Close ts os = closing ds ts os
taken ds Semi ts os = Some (ts, os)
taken ds (Open w) ts os = opening ts os (symbol_named w)
taken ds (Lit w n) ts os = with_tree ts os (literal_in (sort_named w) n)
taken ds (Var k) ts os = with_tree ts os (variable_of_sort k (variable_sort ds k))
taken ds (Word w) ts os = Some (ts, os)

abbrev pub go_on : Option Built → (List Tree → Opened → Option (List Tree)) → Option (List Tree)
go_on None k = None
go_on (Some x) k = k x.0 x.1

-- the trees that the tokens build
unfoldable pub all_taken : List Declaration → List Tok → List Tree → Opened → Option (List Tree)
all_taken ds [] ts os = Some ts
all_taken ds (t ∷ toks) ts os = go_on (taken ds t ts os) (all_taken ds toks)

abbrev pub newest : {A : Type 0} → List A → List A
newest [] = []
newest (x ∷ xs) = newest xs ++ x ∷ []
