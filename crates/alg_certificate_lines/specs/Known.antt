-- The numbers of a line that its base has: of types, variables and functions, all below 2^32.
use Rattle.std.specs.Prelude.{ℕ, ◌^◌, nat_lt, Bool, true, false, ◌&&◌, List, [], ◌∷◌, Option, Some, None, slice_get, if◌then◌else◌}
use Rattle.alg_terms.specs.declared.sorts.Sort.{Sort}
use Rattle.alg_terms.specs.declared.symbols.Sym.{Sym}
use Rattle.alg_terms.specs.Tree.{Tree, Trees, Nil, Cons, Lit as literal, Var as variable, App as node}
use Rattle.alg_law.specs.declared.marks.Mark.{Mark}
use Rattle.alg_law.specs.declared.marks.Mark.TheVariants.{Good, NoInstance, BadSort, BadName}
use Rattle.alg_law.specs.Declarations.{Declaration}
use Rattle.alg_law.specs.WellSorted.{variable_of, sort_mark}
use Rattle.alg_proof.specs.Steps.{name_mark}
use Rattle.alg_certificate.specs.Tokens.{Tok, Blank, Close, Semi, Open, Lit, Var, Word}
use Rattle.alg_certificate_lines.specs.Kept.{kept_sort, kept_symbol}
use Rattle.alg_certificate_lines.specs.Words.{sort_named, symbol_named}

abbrev pub is_good : Mark → Bool
is_good Good = true
is_good NoInstance = false
is_good BadSort = false
is_good BadName = false

abbrev pub is_there : {A : Type 0} → Option A → Bool
is_there None = false
is_there (Some x) = true

abbrev pub has_sort : List Declaration → Option Sort → Bool
has_sort ds None = false
has_sort ds (Some s) = is_good (sort_mark ds s)

abbrev pub has_symbol : List Declaration → Option Sym → Bool
has_symbol ds None = false
has_symbol ds (Some f) = is_good (name_mark ds f)

-- the sort of a variable, by the number of its declaration
abbrev pub variable_sort : List Declaration → ℕ → Option Sort
variable_sort ds k = if nat_lt k (2 ^ 32) then variable_of (slice_get ds k) else None

-- the base has what the tree names
abbrev mutual
  pub known : List Declaration → Tree → Bool
  known ds (literal s n) = has_sort ds (kept_sort s)
  known ds (variable k s) = is_there (variable_sort ds k)
  known ds (node f s ts) = has_symbol ds (kept_symbol f) && all_known ds ts

  pub all_known : List Declaration → Trees → Bool
  all_known ds Nil = true
  all_known ds (Cons t ts) = known ds t && all_known ds ts

-- what tokens name
abbrev pub token_known : List Declaration → Tok → Bool
token_known ds Blank = true
token_known ds Close = true
token_known ds Semi = true
token_known ds (Open w) = has_symbol ds (symbol_named w)
token_known ds (Lit w n) = has_sort ds (sort_named w)
token_known ds (Var k) = is_there (variable_sort ds k)
token_known ds (Word w) = true

unfoldable pub tokens_known : List Declaration → List Tok → Bool
tokens_known ds [] = true
tokens_known ds (t ∷ ts) = token_known ds t && tokens_known ds ts
