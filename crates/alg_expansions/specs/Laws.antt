-- What is shown of expansions and normal forms, with fractions in lowest terms as coefficients.
use Rattle.std.specs.Prelude.{◌≡◌, ℕ, ◌≤◌, true, List, ◌↔◌, Some}
use Rattle.alg_terms.specs.Tree.{Tree, sort_of_tree}
use Rattle.alg_law.specs.Declarations.{Declaration}
use Rattle.alg_law.specs.WellSorted.{IsWellSorted}
use Rattle.alg_sums.specs.Monomial as monomial
use Rattle.alg_sums.specs.Ratio.{Ratio}
use Rattle.alg_sums.specs.Rational.{rational}
use Rattle.alg_sums.specs.Size.{IsWithin}
use Rattle.alg_sums.specs.Sum.{AllTerms}
use Rattle.alg_expansions.specs.Setting.{Setting, setting_of}
use Rattle.alg_expansions.specs.Numerals.{numeral}
use Rattle.alg_expansions.specs.Expansion.{polynomial, HaveSameExpansion}
use Rattle.alg_expansions.specs.NormalTree.{normal_tree}
use Rattle.alg_expansions.specs.NormalForm.{normal_form, prepared}
use Rattle.alg_expansions.specs.Weight.{denominator, weight, degree}

-- a normal form is its own normal form
abbrev pub NormalFormsStay : Type 0
NormalFormsStay = (ds : List Declaration) (t : Tree) → IsWellSorted ds t → normal_form rational (setting_of ds) (normal_form rational (setting_of ds) t) ≡ normal_form rational (setting_of ds) t

-- it is a well sorted tree of the same sort
abbrev pub NormalFormsAreWellSorted : Type 0
NormalFormsAreWellSorted = (ds : List Declaration) (t : Tree) → IsWellSorted ds t → IsWellSorted ds (normal_form rational (setting_of ds) t) × (sort_of_tree (normal_form rational (setting_of ds) t) ≡ sort_of_tree t)

-- in a ring it denotes what the tree denotes, once that has its atoms in normal form
abbrev pub NormalFormsDenote : Type 0
NormalFormsDenote = (ds : List Declaration) (t : Tree) → IsWellSorted ds t → (setting_of ds).is_ring (sort_of_tree t) ≡ true → polynomial rational (setting_of ds) (normal_form rational (setting_of ds) t) ≡ polynomial rational (setting_of ds) (prepared rational (setting_of ds) t)

-- trees of one sort have equal expansions exactly where they have one normal tree
abbrev pub NormalTreesDecide : Type 0
NormalTreesDecide = (ds : List Declaration) (t u : Tree) → IsWellSorted ds t → IsWellSorted ds u → sort_of_tree t ≡ sort_of_tree u → HaveSameExpansion rational (setting_of ds) t u ↔ (normal_tree rational (sort_of_tree t) (polynomial rational (setting_of ds) t) ≡ normal_tree rational (sort_of_tree t) (polynomial rational (setting_of ds) u))

-- the denominator of a tree times each coefficient is whole, and the absolute values sum to at most the weight
abbrev pub WeightsBound : Type 0
WeightsBound = (k : Setting) (t : Tree) → IsWithin rational (denominator rational k t) (polynomial rational k t) (weight rational k t)

-- no monomial has a greater degree than the tree
abbrev pub DegreesBound : Type 0
DegreesBound = (k : Setting) (t : Tree) → AllTerms (λ (u : List (Tree × ℕ) × Ratio). monomial.degree u.0 ≤ degree rational k t) (polynomial rational k t)

-- an exponent keeps its number when its atoms are put in normal form
abbrev pub NumeralsStay : Type 0
NumeralsStay = (k : Setting) (t : Tree) (n : ℕ) → numeral t ≡ Some n → numeral (prepared rational k t) ≡ Some n
