-- What is kept of what a word spells: numbers of declarations are below 2^32.
use Rattle.std.specs.Prelude.{ℕ, ◌^◌, nat_lt, Option, Some, None, if◌then◌else◌}
use Rattle.alg_terms.specs.declared.sorts.Sort.{Sort}
use Rattle.alg_terms.specs.declared.sorts.Sort.TheVariants as sort
use Rattle.alg_terms.specs.declared.symbols.Sym.{Sym}
use Rattle.alg_terms.specs.declared.symbols.Sym.TheVariants as sym
use Rattle.alg_proof.specs.declared.lines.ComputeHead.{ComputeHead}
use Rattle.alg_proof.specs.declared.lines.ComputeHead.TheVariants as head

abbrev pub kept_number : ℕ → Option ℕ
kept_number k = if nat_lt k (2 ^ 32) then Some k else None

abbrev pub numbered_sort : Option ℕ → Option Sort
numbered_sort None = None
numbered_sort (Some k) = Some (sort.Decl k)

abbrev pub kept_sort : Sort → Option Sort
kept_sort sort.Nat = Some sort.Nat
kept_sort sort.Int = Some sort.Int
kept_sort sort.Rat = Some sort.Rat
kept_sort (sort.Decl k) = numbered_sort (kept_number k)

abbrev pub numbered_symbol : Option ℕ → Option Sym
numbered_symbol None = None
numbered_symbol (Some k) = Some (sym.Apply k)

abbrev pub kept_symbol : Sym → Option Sym
kept_symbol (sym.Apply k) = numbered_symbol (kept_number k)
kept_symbol f = Some f

abbrev pub named_head : Option Sym → Option ComputeHead
named_head None = None
named_head (Some f) = Some (head.Named f)

abbrev pub kept_head : ComputeHead → Option ComputeHead
kept_head (head.Named f) = named_head (kept_symbol f)
kept_head head.Dvd = Some head.Dvd
