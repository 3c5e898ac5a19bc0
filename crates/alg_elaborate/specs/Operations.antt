-- The symbols of powers and multiples, by sorts. Those of differences and quotients are the combinations' own.
use Rattle.alg_terms.specs.declared.sorts.Sort.{Sort}
use Rattle.alg_terms.specs.declared.sorts.Sort.TheVariants.{Nat, Int, Rat, Decl}
use Rattle.alg_terms.specs.declared.symbols.Sym.{Sym}
use Rattle.alg_terms.specs.declared.symbols.Sym.TheVariants as sym

-- by the sort of the exponent
abbrev pub power_of : Sort → Sym
power_of Nat = sym.Npow
power_of Int = sym.Zpow
power_of Rat = sym.Zpow
power_of (Decl d) = sym.Zpow

-- by the sort of the left part
abbrev pub multiple_of : Sort → Sym
multiple_of Nat = sym.Nsmul
multiple_of Int = sym.Zsmul
multiple_of Rat = sym.Zsmul
multiple_of (Decl d) = sym.Zsmul
