-- The argument that gives the sort of the value.
use Rattle.std.specs.Prelude.{Bool, true, false}
use Rattle.alg_terms.specs.declared.symbols.Place.{Place}
use Rattle.alg_terms.specs.declared.symbols.Place.TheVariants.{Same, OfNat, OfInt}

-- the argument has the sort of the value
abbrev pub is_same : Place → Bool
is_same Same = true
is_same OfNat = false
is_same OfInt = false
