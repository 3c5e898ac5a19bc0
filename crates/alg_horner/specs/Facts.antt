-- What the calls say of their results.
use Rattle.std.specs.Prelude.{◌≡◌, ℕ, ◌+◌, ◌<◌, ◌≤◌, ◌^◌, true, List, max}
use Rattle.alg_sums.specs.Coefficients.{Coefficients}
use Rattle.alg_sums.specs.Size.{is_whole, size_of}
use Rattle.alg_horner.specs.Form.{Form, coefficient, IsSameMap, atoms, degree, nodes, size, weigh, IsSubadditive}

-- some common denominator makes both sizes small
pub record CanAdd {C : Type 0} (r : Coefficients C) (a b : C) : Type 0 where
  pub denominator : ℕ
  pub positive : 0 < denominator
  pub bounded : denominator ≤ 2 ^ 126
  pub small : size_of r denominator a + size_of r denominator b ≤ 2 ^ 126

pub record CanNegate {C : Type 0} (r : Coefficients C) (a : C) : Type 0 where
  pub denominator : ℕ
  pub positive : 0 < denominator
  pub bounded : denominator ≤ 2 ^ 126
  pub small : size_of r denominator a ≤ 2 ^ 126

pub record CanMultiply {C : Type 0} (r : Coefficients C) (a b : C) : Type 0 where
  pub denominator : ℕ
  pub positive : 0 < denominator
  pub bounded : denominator ≤ 2 ^ 126
  pub first : is_whole r denominator a ≡ true
  pub second : is_whole r denominator b ≡ true
  pub small : size_of r denominator (r.times a b) ≤ 2 ^ 126

-- the same of all coefficients together
pub record CanSum {C : Type 0} (r : Coefficients C) (f g : Form C) : Type 0 where
  pub denominator : ℕ
  pub positive : 0 < denominator
  pub bounded : denominator ≤ 2 ^ 126
  pub small : size r denominator f + size r denominator g ≤ 2 ^ 126

-- h has the map of f, and no more nodes, atoms, degree or weight, whatever atoms and coefficients weigh
pub record IsNormalOf {C : Type 0} (r : Coefficients C) (f h : Form C) : Type 0 where
  pub map : IsSameMap r h f
  pub atoms : atoms h ≤ atoms f
  pub degree : (v : ℕ → ℕ) → degree v h ≤ degree v f
  pub nodes : nodes h ≤ nodes f
  pub weight : (w : C → ℕ) → w r.nil ≡ 0 → weigh w h ≤ weigh w f

-- h has the sum of both maps, and no more atoms or degree than the greater, nor weight than both together
pub record IsSumOf {C : Type 0} (r : Coefficients C) (f g h : Form C) : Type 0 where
  pub map : (m : List ℕ) → coefficient r h m ≡ r.plus (coefficient r f m) (coefficient r g m)
  pub atoms : atoms h ≤ max (atoms f) (atoms g)
  pub degree : (v : ℕ → ℕ) → degree v h ≤ max (degree v f) (degree v g)
  pub weight : (w : C → ℕ) → IsSubadditive r w → weigh w f + weigh w g ≤ 2 ^ 126 → weigh w h ≤ weigh w f + weigh w g
