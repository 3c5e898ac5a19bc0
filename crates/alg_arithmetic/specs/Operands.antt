-- The trees of numerals with which lines compute.
use Rattle.std.specs.Prelude.{List, [], ◌∷◌}
use Rattle.alg_terms.specs.declared.sorts.Sort.{Sort}
use Rattle.alg_terms.specs.Tree.{Tree}
use Rattle.alg_num.specs.Fraction.{Fraction}
use Rattle.alg_fractions.specs.NumeralTree.{signed_tree}

-- the numerals, each in the sort of its place
abbrev pub operands : List Sort → List Fraction → List Tree
operands [] ps = []
operands (s ∷ ss) [] = []
operands (s ∷ ss) (p ∷ ps) = signed_tree s p ∷ operands ss ps
