-- What is found of a tree, and what it says of the tree's numbers.
use Rattle.std.specs.Option.{is_none}
use Rattle.std.specs.Prelude.{◌≡◌, ℕ, ◌+◌, ◌*◌, ◌<◌, ◌≤◌, Bool, true, false, Option, Some, None, is_some, ℤ, pos, unsigned_abs, max, ⊤, List, length, get_or, All}
use Rattle.alg_num.specs.Range.{InRange}
use Rattle.alg_num.specs.Fraction.{Fraction}
use Rattle.alg_num.specs.LowestTerms.{Reduces}
use Rattle.alg_ring_range.specs.Sizes.{is_past, inverse_sizes}
use Rattle.alg_sums.specs.Inverse.{inverse_of}
use Rattle.alg_terms.specs.declared.sorts.Sort.{Sort}
use Rattle.alg_terms.specs.declared.sorts.Sort.TheVariants.{Nat}
use Rattle.alg_terms.specs.declared.symbols.Sym.{Sym}
use Rattle.alg_terms.specs.Tree.{Tree, Lit, App, of_list}
use Rattle.alg_expr.specs.declared.ids.ExprId.{ExprId}
use Rattle.alg_expr.specs.Ids.{tree_of, trees_at}
use Rattle.alg_ring_range.specs.Capped.{capped_numeral}
use Rattle.alg_expansions.specs.Setting.{Setting}
use Rattle.alg_ring_range.specs.Numbers.{Numbers, numbers}
use Rattle.alg_ring_range.specs.declared.sizes.Sizes.{Sizes}
use Rattle.alg_ring_range.specs.declared.rows.Found.{Found}

-- the sizes as they are and in range, or nothing where the tree is out of range
abbrev pub AreSizes : Option Sizes → Numbers → Type 0
AreSizes (Some z) x = (x.is_out ≡ false) × (is_past z ≡ false) × (z ≡ x.sizes)
AreSizes None x = x.is_out ≡ true

-- n over the denominator is the fraction, and is no greater than the weight
pub record IsTop (p : Fraction) (n : ℤ) (z : Sizes) : Type 0 where
  pub reduces : Reduces (record { numerator = n; denominator = z.denominator }) p
  pub bound : unsigned_abs n ≤ z.weight

-- of a closed tree
abbrev pub IsTopOf : Option Fraction → ℤ → Sizes → Type 0
IsTopOf None n z = ⊤
IsTopOf (Some p) n z = IsTop p n z

-- an exponent's number is no greater than its weight
abbrev pub IsCovered : Option ℕ → ℕ → Type 0
IsCovered None w = ⊤
IsCovered (Some n) w = n ≤ w

-- what every tree's numbers have
pub record IsSound (x : Numbers) : Type 0 where
  pub positive : 0 < x.sizes.denominator
  pub covered : IsCovered x.numeral x.sizes.weight

pub record IsFound (f : Found) (x : Numbers) : Type 0 where
  pub sound : IsSound x
  pub numeral : f.numeral ≡ capped_numeral x.numeral
  pub closed : f.closed ≡ is_some x.fraction
  pub sizes : AreSizes f.sizes x
  pub top : x.is_out ≡ false → IsTopOf x.fraction f.top x.sizes

-- both, where both are there
abbrev pub both_of : Option Sizes → Option Sizes → Option (Sizes × Sizes)
both_of (Some x) (Some y) = Some (x, y)
both_of (Some x) None = None
both_of None y = None

-- what stands for a tree that isn't wanted
abbrev pub absent : Found
absent = record { numeral = None; closed = false; top = pos 0; sizes = None }

-- of the first trees, those that are wanted
pub record AreFound (k : Setting) (trees : List Tree) (wanted : List Bool) (found : List Found) : Type 0 where
  pub within : length found ≤ length trees
  pub each : (i : ℕ) → i < length found → get_or wanted i false ≡ true → IsFound (get_or found i absent) (numbers k (get_or trees i (Lit Nat 0)))

-- the parts are found
pub record ArePartsFound (k : Setting) (trees : List Tree) (found : List Found) (args : List ExprId) : Type 0 where
  pub within : All (λ a. a.index < length found) args
  pub each : All (λ a. IsFound (get_or found a.index absent) (numbers k (tree_of trees a))) args

-- the parts of a tree are found, whatever ids they have
abbrev pub HasParts : Setting → List Tree → List Found → ExprId → Type 0
HasParts k trees found e = (f : Sym) (s : Sort) (args : List ExprId) → tree_of trees e ≡ App f s (of_list (trees_at trees args)) → All (λ a. a.index < e.index) args → ArePartsFound k trees found args

-- a sum where both parts are multiplied first
abbrev pub scaled_sizes : Sizes → ℕ → Sizes → ℕ → Sizes
scaled_sizes x s y t = record { denominator = x.denominator * s; weight = x.weight * s + y.weight * t; degree = max x.degree y.degree }

-- the sizes of the inverse and the denominator times its fraction, or nothing where the tree is out of range
abbrev pub HasInverse : Option (Sizes × ℤ) → Numbers → Fraction → Type 0
HasInverse (Some v) x p = (x.is_out ≡ false) × (v.0 ≡ inverse_sizes p) × (v.1 ≡ (inverse_of p).numerator) × InRange v.1
HasInverse None x p = x.is_out ≡ true

-- the tree of the id is out of range
abbrev pub is_lost : List Found → ExprId → Bool
is_lost found e = is_none (get_or found e.index absent).sizes
