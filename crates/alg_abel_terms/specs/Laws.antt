-- What is shown of combinations and their normal trees, whatever numbers the factors have.
use Rattle.std.specs.Prelude.{◌≡◌, ◌≤◌, true, List, ◌↔◌, Option, ℤ}
use Rattle.alg_terms.specs.declared.sorts.Sort.{Sort}
use Rattle.alg_terms.specs.Tree.{Tree, sort_of_tree}
use Rattle.alg_law.specs.declared.classes.Class.TheVariants.{AddMonoid}
use Rattle.alg_law.specs.Declarations.{Declaration}
use Rattle.alg_law.specs.Having.{has_class}
use Rattle.alg_law.specs.WellSorted.{IsWellSorted}
use Rattle.alg_abel_terms.specs.Combination.{combination, HaveSameCombination}
use Rattle.alg_abel_terms.specs.NormalTree.{normal_form}
use Rattle.alg_abel_terms.specs.Weight.{weight, total_size}
use Rattle.alg_abel_terms.specs.Numbers.{number, ReadsLiterals, IsNatural}

-- a normal form is its own normal form
abbrev pub NormalFormsStay : Type 0
NormalFormsStay = (value : Tree → Option ℤ) → ReadsLiterals value → (s : Sort) (t : Tree) → normal_form value s (normal_form value s t) ≡ normal_form value s t

-- it denotes what the tree denotes
abbrev pub NormalFormsDenote : Type 0
NormalFormsDenote = (value : Tree → Option ℤ) → ReadsLiterals value → (s : Sort) (t : Tree) → combination value (normal_form value s t) ≡ combination value t

-- trees denote one map exactly where they have one normal form
abbrev pub NormalFormsDecide : Type 0
NormalFormsDecide = (value : Tree → Option ℤ) → ReadsLiterals value → (s : Sort) (t u : Tree) → HaveSameCombination value t u ↔ (normal_form value s t ≡ normal_form value s u)

-- the normal form of a well sorted tree is a well sorted tree of the same sort
abbrev pub NormalFormsAreWellSorted : Type 0
NormalFormsAreWellSorted = (ds : List Declaration) (value : Tree → Option ℤ) → IsNatural ds value → (t : Tree) → has_class ds (sort_of_tree t) AddMonoid ≡ true → IsWellSorted ds t → IsWellSorted ds (normal_form value (sort_of_tree t) t) × (sort_of_tree (normal_form value (sort_of_tree t) t) ≡ sort_of_tree t)

-- the absolute values of the coefficients sum to at most the weight
abbrev pub WeightsBound : Type 0
WeightsBound = (value : Tree → Option ℤ) (t : Tree) → total_size (combination value t) ≤ weight value t

-- the numbers of trees with nothing covered read literals
abbrev pub NumbersReadLiterals : Type 0
NumbersReadLiterals = (ds : List Declaration) → ReadsLiterals (number ds)
