-- Compounds as the code sees them.
use Rattle.std.specs.Prelude.{◌≡◌}
use Rattle.alg_terms.specs.declared.sorts.Sort.{Sort}
use Rattle.alg_terms.specs.declared.symbols.Sym.{Sym}
use Rattle.alg_terms.specs.Tree.{Tree, App, Trees}
use Rattle.alg_show.specs.declared.notation.Notation.{Notation}
use Rattle.alg_show.specs.Notation.{notation_of}

-- the tree is a compound that is written so
pub record IsWritten (t : Tree) (n : Notation) : Type 0 where
  pub symbol : Sym
  pub sort : Sort
  pub parts : Trees
  pub compound : t ≡ App symbol sort parts
  pub notation : n ≡ notation_of symbol

-- the tree is a compound of this symbol
pub record IsSymbol (t : Tree) (f : Sym) : Type 0 where
  pub sort : Sort
  pub parts : Trees
  pub compound : t ≡ App f sort parts
