-- The integers that factors have: the values of trees of ℕ and ℤ, with no named function covered.
use Rattle.std.specs.Prelude.{◌≡◌, ℕ, Bool, false, List, Option, Some, None, ℤ, pos}
use Rattle.alg_terms.specs.declared.sorts.Sort.TheVariants.{Nat}
use Rattle.alg_terms.specs.Tree.{Tree, Lit, sort_of_tree}
use Rattle.alg_law.specs.Declarations.{Declaration}
use Rattle.alg_law.specs.WellSorted.{IsWellSorted}
use Rattle.alg_sums.specs.Rational.{negative}
use Rattle.alg_values.specs.Setting.{setting, nothing_covered}
use Rattle.alg_values.specs.Values.{value, is_past}
use Rattle.alg_values.specs.declared.value.Value.{Value}
use Rattle.alg_values.specs.declared.value.Value.TheVariants.{Num, Past, Without}

-- in ℕ and ℤ no denominator is other than 1
abbrev pub integer_of : Value → Option ℤ
integer_of (Num p) = Some p.numerator
integer_of Past = None
integer_of Without = None

abbrev pub number : List Declaration → Tree → Option ℤ
number ds t = integer_of (value (setting ds nothing_covered) t)

-- the root of the tree is past the range
abbrev pub past : List Declaration → Tree → Bool
past ds t = is_past (value (setting ds nothing_covered) t)

-- what the laws ask of the integers of factors: a literal of ℕ has its number
abbrev pub ReadsLiterals : (Tree → Option ℤ) → Type 0
ReadsLiterals read = (n : ℕ) → read (Lit Nat n) ≡ Some (pos n)

-- and a tree of ℕ has none below 0
abbrev pub IsNatural : List Declaration → (Tree → Option ℤ) → Type 0
IsNatural ds read = (k : Tree) (z : ℤ) → IsWellSorted ds k → sort_of_tree k ≡ Nat → read k ≡ Some z → negative z ≡ false
