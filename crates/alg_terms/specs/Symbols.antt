-- The table of built-in symbols: how many arguments each takes, of which sorts, and which sorts its value may have.
use Rattle.std.specs.Prelude.{Bool, true, false, ◌&&◌, List, [], ◌∷◌}
use Rattle.alg_terms.specs.declared.sorts.Sort.{Sort}
use Rattle.alg_terms.specs.declared.sorts.Sort.TheVariants.{Nat, Int, Rat, Decl}
use Rattle.alg_terms.specs.declared.symbols.Sym.{Sym}
use Rattle.alg_terms.specs.declared.symbols.Sym.TheVariants.{Add, Mul, Neg, Sub, Inv, Div, Npow, Zpow, Nsmul, Zsmul, Abs, Min, Max, NatSub, IDiv, Mod, Gcd, Lcm, Fact, Choose, Fib, Apply}
use Rattle.alg_terms.specs.declared.symbols.Place.{Place}
use Rattle.alg_terms.specs.declared.symbols.Place.TheVariants.{Same, OfNat, OfInt}
use Rattle.alg_terms.specs.Order.{sort_same}

-- the symbol is no declared function
abbrev pub is_built_in : Sym → Bool
is_built_in (Apply k) = false
is_built_in _ = true

-- the places of the arguments of a built-in symbol
abbrev pub places : Sym → List Place
places Add = Same ∷ Same ∷ []
places Mul = Same ∷ Same ∷ []
places Neg = Same ∷ []
places Sub = Same ∷ Same ∷ []
places Inv = Same ∷ []
places Div = Same ∷ Same ∷ []
places Npow = Same ∷ OfNat ∷ []
places Zpow = Same ∷ OfInt ∷ []
places Nsmul = OfNat ∷ Same ∷ []
places Zsmul = OfInt ∷ Same ∷ []
places Abs = Same ∷ []
places Min = Same ∷ Same ∷ []
places Max = Same ∷ Same ∷ []
places NatSub = Same ∷ Same ∷ []
places IDiv = Same ∷ Same ∷ []
places Mod = Same ∷ Same ∷ []
places Gcd = Same ∷ Same ∷ []
places Lcm = Same ∷ Same ∷ []
places Fact = Same ∷ []
places Choose = Same ∷ Same ∷ []
places Fib = Same ∷ []
places (Apply k) = []

-- ℕ or ℤ, the sorts that have rounded division
abbrev pub is_integral : Sort → Bool
is_integral Nat = true
is_integral Int = true
is_integral Rat = false
is_integral (Decl k) = false

-- the symbol may have a value of this sort, classes aside
abbrev pub serves : Sym → Sort → Bool
serves NatSub s = sort_same s Nat
serves IDiv s = is_integral s
serves Mod s = is_integral s
serves Gcd s = sort_same s Nat
serves Lcm s = sort_same s Nat
serves Fact s = sort_same s Nat
serves Choose s = sort_same s Nat
serves Fib s = sort_same s Nat
serves _ s = true

-- an argument of sort t may stand at this place, where the value has sort s
abbrev pub place_fits : Place → Sort → Sort → Bool
place_fits Same s t = sort_same t s
place_fits OfNat s t = sort_same t Nat
place_fits OfInt s t = sort_same t Int

-- each argument's sort is that of its place, as far as both go
abbrev pub places_fit : List Place → Sort → List Sort → Bool
places_fit [] s ts = true
places_fit (p ∷ ps) s [] = true
places_fit (p ∷ ps) s (t ∷ ts) = place_fits p s t && places_fit ps s ts

-- a built-in symbol takes arguments of these sorts to a value of sort s, where as many stand there as it has places
abbrev pub arguments_fit : Sym → Sort → List Sort → Bool
arguments_fit f s ts = places_fit (places f) s ts && serves f s
