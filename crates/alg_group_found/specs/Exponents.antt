-- The integers that exponents denote, with no extension asked.
use Rattle.std.specs.Prelude.{◌≡◌, Bool, false, ℤ, pos, unsigned_abs, List, Option, Some, None, ⊤}
use Rattle.alg_terms.specs.declared.sorts.Sort.{Sort}
use Rattle.alg_terms.specs.declared.sorts.Sort.TheVariants.{Nat, Int, Rat, Decl}
use Rattle.alg_terms.specs.Tree.{Tree, Lit, sort_of_tree}
use Rattle.alg_num.specs.Range.{InRange}
use Rattle.alg_law.specs.Declarations.{Declaration}
use Rattle.alg_build.specs.Book.{Book}
use Rattle.alg_build.specs.Rewriting.{Turns}
use Rattle.alg_build.specs.declared.rewriting.Rewriting.{Rewriting}
use Rattle.alg_numerals.specs.WholeTree.{whole_tree}
use Rattle.alg_values.specs.Setting.{setting, nothing_covered}
use Rattle.alg_values.specs.Values.{value, is_past}
use Rattle.alg_values.specs.declared.value.Value.{Value}
use Rattle.alg_values.specs.declared.value.Value.TheVariants.{Num, Past, Without}
use Rattle.alg_group_found.specs.declared.found.Exponent.{Exponent}

abbrev pub whole_of : Value → Option ℤ
whole_of (Num p) = Some p.numerator
whole_of Past = None
whole_of Without = None

-- the integer that an exponent denotes
unfoldable pub exponent : List Declaration → Tree → Option ℤ
exponent ds t = whole_of (value (setting ds nothing_covered) t)

-- the exponent itself is past the range
unfoldable pub past : List Declaration → Tree → Bool
past ds t = is_past (value (setting ds nothing_covered) t)

-- an exponent of ℕ or ℤ is rewritten to its numeral
abbrev pub TurnsToInteger : Book → Sort → Rewriting → Tree → ℤ → Type 0
TurnsToInteger b Nat r k z = Turns b Nat r k (Lit Nat (unsigned_abs z)) × (z ≡ pos (unsigned_abs z))
TurnsToInteger b Int r k z = Turns b Int r k (whole_tree Int z)
TurnsToInteger b Rat r k z = ⊤
TurnsToInteger b (Decl n) r k z = ⊤

-- the integer is in range, the exponent isn't past the range, and it is rewritten to its numeral
pub record HasInteger (b : Book) (p : Bool) (k : Tree) (r : Rewriting) (z : ℤ) : Type 0 where
  pub small : InRange z
  pub fits : p ≡ false
  pub turns : TurnsToInteger b (sort_of_tree k) r k z

abbrev pub IfInteger : Book → Bool → Tree → Rewriting → Option ℤ → Type 0
IfInteger b p k r None = ⊤
IfInteger b p k r (Some z) = HasInteger b p k r z

-- what is found of an exponent
pub record IsExponent (ds : List Declaration) (b : Book) (k : Tree) (x : Exponent) : Type 0 where
  pub value_is : x.value ≡ exponent ds k
  pub past_is : x.past ≡ past ds k
  pub turns : IfInteger b (past ds k) k x.by (exponent ds k)
