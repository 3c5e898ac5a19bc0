-- Laws as rows of patterns, and when trees may be put for the letters of a row.
use Rattle.std.specs.Prelude.{◌≡◌, ℕ, Bool, true, ◌&&◌, List, [], ◌∷◌, map}
use Rattle.alg_terms.specs.declared.sorts.Sort.{Sort}
use Rattle.alg_terms.specs.declared.sorts.Sort.TheVariants.{Nat}
use Rattle.alg_terms.specs.Tree.{Tree, of_list, sort_of_tree}
use Rattle.alg_terms.specs.Order.{sort_same}
use Rattle.alg_law.specs.declared.rows.Need.{Need}
use Rattle.alg_law.specs.declared.rows.Need.TheVariants as need
use Rattle.alg_law.specs.Declarations.{Declaration}
use Rattle.alg_law.specs.Having.{has_class}
use Rattle.alg_law.specs.WellSorted.{sort_mark, AreWellSorted}
use Rattle.alg_law.specs.declared.marks.Mark.TheVariants.{Good}
use Rattle.alg_law.specs.Patterns.{PatStatement, letter_sort, occurring}

-- a law: what it asks of the sort, what it takes to hold, and what it concludes
pub record Row : Type 0 where
  pub name : List ℕ
  pub needs : List Need
  pub premises : List PatStatement
  pub conclusion : PatStatement

-- the letters of a row are those of its premises and its conclusion
abbrev pub letters_of : Row → List ℕ
letters_of r = occurring (0 ∷ 1 ∷ 2 ∷ 3 ∷ 4 ∷ 5 ∷ 6 ∷ 7 ∷ []) (r.conclusion ∷ r.premises)

abbrev pub meets : List Declaration → Sort → Need → Bool
meets ds s (need.Class c) = has_class ds s c
meets ds s need.IsNat = sort_same s Nat

abbrev pub meets_all : List Declaration → Sort → List Need → Bool
meets_all ds s [] = true
meets_all ds s (n ∷ ns) = meets ds s n && meets_all ds s ns

-- a sort that the row may have, and well sorted trees for its letters
pub record MayFill (ds : List Declaration) (r : Row) (s : Sort) (with : List Tree) : Type 0 where
  pub known : sort_mark ds s ≡ Good
  pub needs : meets_all ds s r.needs ≡ true
  pub sorts : map sort_of_tree with ≡ map (letter_sort s) (letters_of r)
  pub trees : AreWellSorted ds (of_list with)
