-- Well sorted trees of given sorts.
use Rattle.std.specs.Prelude.{◌≡◌, List, map}
use Rattle.alg_terms.specs.declared.sorts.Sort.{Sort}
use Rattle.alg_terms.specs.Tree.{Tree, of_list, sort_of_tree}
use Rattle.alg_law.specs.declared.marks.Mark.TheVariants.{Good}
use Rattle.alg_law.specs.Declarations.{Declaration}
use Rattle.alg_law.specs.WellSorted.{marks_of, IsWellSorted}

-- a well sorted tree of the sort k
pub record IsOfSort (ds : List Declaration) (k : Sort) (t : Tree) : Type 0 where
  pub good : IsWellSorted ds t
  pub sort : sort_of_tree t ≡ k

-- well sorted trees of these sorts
pub record AreOfSorts (ds : List Declaration) (ks : List Sort) (ts : List Tree) : Type 0 where
  pub good : marks_of ds (of_list ts) ≡ Good
  pub sorts : map sort_of_tree ts ≡ ks
