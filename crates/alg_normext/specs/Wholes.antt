-- What a line rests on that computes a function of whole numbers.
use Rattle.std.specs.Prelude.{◌≡◌, ℕ, ℤ, List, map, true, Some, All}
use Rattle.alg_terms.specs.declared.sorts.Sort.{Sort}
use Rattle.alg_terms.specs.Tree.{Tree, App, of_list, sort_of_tree}
use Rattle.alg_expr.specs.Ids.{tree_of}
use Rattle.alg_num.specs.Fraction.{Fraction}
use Rattle.alg_law.specs.WellSorted.{IsWellSorted}
use Rattle.alg_proof.specs.Computations.{numeral_at, numerals_at, has_numeral, is_small_integer, value_at}
use Rattle.alg_build.specs.Book.{Book, Proves}
use Rattle.alg_build.specs.Computing.{Computes}
use Rattle.alg_build.specs.Rewriting.{AllProve, Heads}
use Rattle.alg_values.specs.Functions.{whole_function}
use Rattle.alg_values.specs.declared.value.Value.TheVariants.{Num}
use Rattle.alg_exts.specs.Valuing.{IsValued, trees_of, fractions_of}
use Rattle.alg_exts.specs.declared.num_ext.Valued.{Valued}
use Rattle.alg_normext.specs.Functions.{is_whole_function}
use Rattle.alg_normext.specs.declared.heads.Head.{Head}

-- the tree is of this sort and equals the numeral of a whole number, which the sort has
pub record IsWhole (b : Book) (s : Sort) (v : Valued) : Type 0 where
  pub sort : sort_of_tree (tree_of b.trees v.expr) ≡ s
  pub proves : Proves b v.line (tree_of b.trees v.expr) (numeral_at s v.value.numerator)
  pub has : has_numeral b.theory.declarations s v.value.numerator ≡ true
  pub small : is_small_integer v.value.numerator ≡ true

-- the function has this value at these numbers
pub record HasWholeValue (h : Head) (xs : List ℤ) (p : Fraction) : Type 0 where
  pub value : value_at h.sort h.sym xs ≡ Some p.numerator
  pub small : is_small_integer p.numerator ≡ true
  pub whole : p.denominator ≡ 1

-- the function over evaluated parts is a well sorted tree, and has this value
pub record IsWorth (b : Book) (h : Head) (args : List Valued) (p : Fraction) : Type 0 where
  pub whole : is_whole_function h.sym ≡ true
  pub sorted : IsWellSorted b.theory.declarations (App h.sym h.sort (of_list (trees_of b args)))
  pub valued : All (IsValued b) args
  pub value : whole_function h.sort h.sym (fractions_of args) ≡ Num p

-- the lines conclude that trees equal the numerals of these numbers; the function may stand over the trees, and of the
-- numbers it has this value
pub record IsReady (b : Book) (h : Head) (lines : List ℕ) (xs : List ℤ) (p : Fraction) : Type 0 where
  pub trees : List Tree
  pub prove : AllProve b lines trees (numerals_at h.sort xs)
  pub heads : Heads b h.sym h.sort (map sort_of_tree trees)
  pub computes : Computes b h.sym h.sort xs
  pub value : HasWholeValue h xs p
