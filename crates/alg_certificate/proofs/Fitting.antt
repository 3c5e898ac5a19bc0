-- The words of sorts and symbols are such.
use Rattle.std.proofs.Common.{◌≡◌, ℕ, ◌≤◌, true, decimal, refl, ap}
use Rattle.alg_terms.specs.declared.sorts.Sort.{Sort}
use Rattle.alg_terms.specs.declared.sorts.Sort.TheVariants as sort
use Rattle.alg_terms.specs.declared.symbols.Sym.{Sym}
use Rattle.alg_terms.specs.declared.symbols.Sym.TheVariants as symbol
use Rattle.alg_certificate.specs.Numbers.{max_number}
use Rattle.alg_certificate.specs.Words.{sort_bytes, symbol_bytes, ends, is_number, is_sort, is_symbol}
use Rattle.alg_certificate.specs.Spelling.{SortFits, SymbolFits}
use Rattle.alg_certificate.proofs.NumberLaws.{number_whole}

pub number_fits : (n : ℕ) → n ≤ max_number → is_number (decimal n) ≡ true
number_fits n fits = ap ends (number_whole n fits)

pub sort_fits : (s : Sort) → SortFits s → is_sort (sort_bytes s) ≡ true
sort_fits sort.Nat f = refl
sort_fits sort.Int f = refl
sort_fits sort.Rat f = refl
sort_fits (sort.Decl k) f = number_fits k f

pub symbol_fits : (f : Sym) → SymbolFits f → is_symbol (symbol_bytes f) ≡ true
symbol_fits symbol.Add f = refl
symbol_fits symbol.Mul f = refl
symbol_fits symbol.Neg f = refl
symbol_fits symbol.Sub f = refl
symbol_fits symbol.Inv f = refl
symbol_fits symbol.Div f = refl
symbol_fits symbol.Npow f = refl
symbol_fits symbol.Zpow f = refl
symbol_fits symbol.Nsmul f = refl
symbol_fits symbol.Zsmul f = refl
symbol_fits symbol.Abs f = refl
symbol_fits symbol.Min f = refl
symbol_fits symbol.Max f = refl
symbol_fits symbol.NatSub f = refl
symbol_fits symbol.IDiv f = refl
symbol_fits symbol.Mod f = refl
symbol_fits symbol.Gcd f = refl
symbol_fits symbol.Lcm f = refl
symbol_fits symbol.Fact f = refl
symbol_fits symbol.Choose f = refl
symbol_fits symbol.Fib f = refl
symbol_fits (symbol.Apply k) f = number_fits k f
