-- Two sorted sums over one table of monomials, and which gives the next term.
use Rattle.std.specs.Prelude.{◌≡◌, ℕ, ◌<◌, pos, List, length, get_or, map, take, drop}
use Rattle.std.specs.declared.cmp.Ordering.TheVariants.{Less}
use Rattle.alg_num.specs.Fraction.{Fraction}
use Rattle.alg_sums.specs.Ratio.{Ratio}
use Rattle.alg_sums.specs.Rational.{rational}
use Rattle.alg_sums.specs.Merging.{IsMerged}
use Rattle.alg_monomials.specs.declared.monomials.Monomial.{Monomial}
use Rattle.alg_monomials.specs.declared.sides.Side.{Side}
use Rattle.alg_monomials.specs.declared.sides.Side.TheVariants.{Left, Right, Both}
use Rattle.alg_monomials.specs.declared.terms.Term.{Term}
use Rattle.alg_monomials.specs.Monomials.{powers, no_monomial, monomial_order}

-- what stands for a term that isn't there
abbrev pub no_term : Term
no_term = record { monomial = 0; value = record { numerator = pos 0; denominator = 0 }; tree = record { index = 0 }; sum = record { index = 0 } }

-- the monomial of a term
abbrev pub key_of : List Monomial → Term → List (ℕ × ℕ)
key_of table t = powers (get_or table t.monomial no_monomial).factors

abbrev pub key_at : List Monomial → List Term → ℕ → List (ℕ × ℕ)
key_at table ts k = key_of table (get_or ts k no_term)

-- the monomials are in the table
pub record AreKnown (table : List Monomial) (ts : List Term) : Type 0 where
  pub known : (k : ℕ) → k < length ts → (get_or ts k no_term).monomial < length table

-- the first k terms come before the first of another sum, if it has any
pub record ComeBefore (table : List Monomial) (p q : List Term) (k : ℕ) : Type 0 where
  pub before : 0 < length q → (m : ℕ) → m < k → monomial_order (key_at table p m) (key_at table q 0) ≡ Less

-- term i of p comes before term j of q, if there is one
pub record TakesLeft (table : List Monomial) (p q : List Term) (i j : ℕ) : Type 0 where
  pub more : i < length p
  pub before : j < length q → monomial_order (key_at table p i) (key_at table q j) ≡ Less

pub record TakesRight (table : List Monomial) (p q : List Term) (i j : ℕ) : Type 0 where
  pub more : j < length q
  pub before : i < length p → monomial_order (key_at table q j) (key_at table p i) ≡ Less

-- they have one monomial
pub record TakesBoth (table : List Monomial) (p q : List Term) (i j : ℕ) : Type 0 where
  pub left_more : i < length p
  pub right_more : j < length q
  pub same : key_at table p i ≡ key_at table q j

abbrev pub Takes : List Monomial → List Term → List Term → ℕ → ℕ → Side → Type 0
Takes table p q i j Left = TakesLeft table p q i j
Takes table p q i j Right = TakesRight table p q i j
Takes table p q i j Both = TakesBoth table p q i j

-- a term as a monomial with a coefficient, where the meaning of a number is which coefficient it is
abbrev pub meant : (Fraction → Ratio) → List Monomial → Term → List (ℕ × ℕ) × Ratio
meant w table t = (key_of table t, w t.value)

abbrev pub all_meant : (Fraction → Ratio) → List Monomial → List Term → List (List (ℕ × ℕ) × Ratio)
all_meant w table ts = map (meant w table) ts

-- the first i terms of p and the first j of q are merged to these
abbrev pub AreMerged : (Fraction → Ratio) → List Monomial → List Term → List Term → List Term → ℕ → ℕ → Type 0
AreMerged w table p q done i j = IsMerged rational monomial_order (all_meant w table (take i p)) (all_meant w table (drop i p)) (all_meant w table (take j q)) (all_meant w table (drop j q)) (all_meant w table done)
