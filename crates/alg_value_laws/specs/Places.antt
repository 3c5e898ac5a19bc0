-- The sorts of the parts of a symbol.
use Rattle.std.specs.Prelude.{List, map}
use Rattle.alg_terms.specs.declared.sorts.Sort.{Sort}
use Rattle.alg_terms.specs.declared.sorts.Sort.TheVariants.{Nat, Int}
use Rattle.alg_terms.specs.declared.symbols.Sym.{Sym}
use Rattle.alg_terms.specs.declared.symbols.Place.{Place}
use Rattle.alg_terms.specs.declared.symbols.Place.TheVariants.{Same, OfNat, OfInt}
use Rattle.alg_terms.specs.Symbols.{places}

-- the sort that stands at a place, where the whole has the sort s
abbrev pub expected : Sort → Place → Sort
expected s Same = s
expected s OfNat = Nat
expected s OfInt = Int

-- those of the parts of a symbol that isn't declared
abbrev pub sorts_over : Sym → Sort → List Sort
sorts_over f s = map (expected s) (places f)
