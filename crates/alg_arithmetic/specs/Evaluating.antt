-- An operation on numerals whose value is known.
use Rattle.std.specs.Prelude.{◌≡◌, List, [], ◌∷◌}
use Rattle.alg_terms.specs.declared.sorts.Sort.{Sort}
use Rattle.alg_terms.specs.declared.symbols.Sym.{Sym}
use Rattle.alg_terms.specs.Tree.{Tree}
use Rattle.alg_num.specs.Fraction.{Fraction}
use Rattle.alg_law.specs.declared.marks.Mark.TheVariants.{Good}
use Rattle.alg_law.specs.Having.{has_class}
use Rattle.alg_law.specs.WellSorted.{sort_mark}
use Rattle.alg_lemma.specs.Library.{HoldsLibrary}
use Rattle.alg_build.specs.Book.{Book}
use Rattle.alg_values.specs.Arithmetic.{arithmetic_of}
use Rattle.alg_values.specs.declared.value.Value.TheVariants.{Num}
use Rattle.alg_value_laws.specs.Fitting.{Fits, AllFit}
use Rattle.alg_value_laws.specs.Places.{sorts_over}
use Rattle.alg_values.specs.Numerals.{signed_tree}

-- the numerals, each in the sort of its place
abbrev pub signed_trees : List Sort → List Fraction → List Tree
signed_trees [] ps = []
signed_trees (s ∷ ss) [] = []
signed_trees (s ∷ ss) (p ∷ ps) = signed_tree s p ∷ signed_trees ss ps

-- the operation has this value, and the sorts of its parts have their numerals
pub record Evaluates (b : Book) (f : Sym) (s : Sort) (ps : List Fraction) (z : Fraction) : Type 0 where
  pub known : sort_mark b.theory.declarations s ≡ Good
  pub library : HoldsLibrary b.theory.lemmas
  pub fit : AllFit b.theory.declarations (sorts_over f s) ps
  pub value : arithmetic_of (has_class b.theory.declarations) f s ps ≡ Num z

-- the sort has the numeral of this fraction
pub record HasNumeral (b : Book) (s : Sort) (p : Fraction) : Type 0 where
  pub known : sort_mark b.theory.declarations s ≡ Good
  pub library : HoldsLibrary b.theory.lemmas
  pub fits : Fits b.theory.declarations s p
