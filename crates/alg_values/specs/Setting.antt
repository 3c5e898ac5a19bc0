-- What the value of a tree depends on beside the tree.
use Rattle.std.specs.Prelude.{Bool, false, List}
use Rattle.alg_terms.specs.declared.sorts.Sort.{Sort}
use Rattle.alg_terms.specs.declared.symbols.Sym.{Sym}
use Rattle.alg_law.specs.declared.classes.Class.{Class}
use Rattle.alg_law.specs.Declarations.{Declaration}
use Rattle.alg_law.specs.Having.{has_class}

-- which sort has which class
abbrev pub Classes : Type 0
Classes = Sort → Class → Bool

-- the classes, and the symbols that are covered
pub record Setting : Type 0 where
  pub has : Classes
  pub covers : Sym → Bool

abbrev pub setting : List Declaration → (Sym → Bool) → Setting
setting ds covers = record { has = has_class ds; covers = covers }

abbrev pub nothing_covered : Sym → Bool
nothing_covered f = false
