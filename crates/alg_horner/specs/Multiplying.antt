-- The product of two maps: all ways to write a monomial as a product of two.
use Rattle.std.specs.Prelude.{◌≡◌, ℕ, ◌+◌, ◌<◌, ◌≤◌, ◌^◌, true, List, max}
use Rattle.alg_sums.specs.Coefficients.{Coefficients}
use Rattle.alg_sums.specs.Exponents.{convolved}
use Rattle.alg_sums.specs.Size.{is_whole, size_of}
use Rattle.alg_horner.specs.Form.{Form, coefficient, atoms, degree, exponent, cost, weigh, IsWhole, IsSubadditive}

-- some common denominator makes all coefficients whole, and the sizes of their products small
pub record CanConvolve {C : Type 0} (r : Coefficients C) (f g : Form C) : Type 0 where
  pub denominator : ℕ
  pub positive : 0 < denominator
  pub bounded : denominator ≤ 2 ^ 126
  pub first : IsWhole r denominator f
  pub second : IsWhole r denominator g
  pub small : cost r (size_of r denominator) f g ≤ 2 ^ 126

pub record CanScale {C : Type 0} (r : Coefficients C) (f : Form C) (c : C) : Type 0 where
  pub denominator : ℕ
  pub positive : 0 < denominator
  pub bounded : denominator ≤ 2 ^ 126
  pub first : IsWhole r denominator f
  pub second : is_whole r denominator c ≡ true
  pub small : weigh (λ a. size_of r denominator (r.times a c)) f ≤ 2 ^ 126

-- h has the product of both maps
pub record IsProductOf {C : Type 0} (r : Coefficients C) (f g h : Form C) : Type 0 where
  pub map : (m : List ℕ) → coefficient r h m ≡ convolved r (coefficient r f) (coefficient r g) m
  pub atoms : atoms h ≤ max (atoms f) (atoms g)
  pub degree : (v : ℕ → ℕ) → degree v h ≤ degree v f + degree v g
  pub weight : (w : C → ℕ) → IsSubadditive r w → cost r w f g ≤ 2 ^ 126 → weigh w h ≤ cost r w f g

-- h has the map of f times c
pub record IsMultipleOf {C : Type 0} (r : Coefficients C) (f : Form C) (c : C) (h : Form C) : Type 0 where
  pub map : (m : List ℕ) → coefficient r h m ≡ r.times (coefficient r f m) c
  pub atoms : atoms h ≤ atoms f
  pub degree : (v : ℕ → ℕ) → degree v h ≤ degree v f
  pub weight : (w : C → ℕ) → w r.nil ≡ 0 → weigh w h ≤ weigh (λ a. w (r.times a c)) f

-- no atom has an exponent past 2^32 - 1 in a monomial of the product
pub record HasSmallProduct {C : Type 0} (f g : Form C) : Type 0 where
  pub exponents : (n : ℕ) → exponent n f + exponent n g < 2 ^ 32
