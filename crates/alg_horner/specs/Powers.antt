-- Powers of a map.
use Rattle.std.specs.Prelude.{◌≡◌, ℕ, zero, suc, ◌+◌, ◌*◌, ◌<◌, ◌≤◌, ◌^◌, List}
use Rattle.alg_sums.specs.Coefficients.{Coefficients}
use Rattle.alg_horner.specs.Form.{Form, constant, coefficient, atoms, degree, exponent, size, IsWhole}
use Rattle.alg_sums.specs.Exponents.{convolved}

-- n times multiplied by f, beginning with 1
abbrev pub powered : {C : Type 0} → Coefficients C → (List ℕ → C) → ℕ → List ℕ → C
powered r f zero m = coefficient r (constant r.one) m
powered r f (suc n) m = convolved r (powered r f n) f m

-- the power of a coefficient
abbrev pub power_of : {C : Type 0} → Coefficients C → C → ℕ → C
power_of r c zero = r.one
power_of r c (suc n) = r.times (power_of r c n) c

-- k factors are enough for the n-th power of a coefficient: past 128 it is 0, 1 or -1, and only the parity of n counts
pub record IsEnough (n k : ℕ) : Type 0 where
  pub below : k ≤ n
  pub same : n ≤ 128 → k ≡ n
  pub least : 128 < n → 127 ≤ k
  pub pairs : ℕ
  pub even : n ≡ k + 2 * pairs

-- some denominator of the coefficients has a small n-th power, and so has the size for it
pub record CanPower {C : Type 0} (r : Coefficients C) (f : Form C) (n : ℕ) : Type 0 where
  pub denominator : ℕ
  pub positive : 0 < denominator
  pub bounded : denominator ^ n ≤ 2 ^ 126
  pub whole : IsWhole r denominator f
  pub small : size r denominator f ^ n ≤ 2 ^ 126

-- h has the n-th power of the map of f
pub record IsPowerOf {C : Type 0} (r : Coefficients C) (f : Form C) (n : ℕ) (h : Form C) : Type 0 where
  pub map : (m : List ℕ) → coefficient r h m ≡ powered r (coefficient r f) n m
  pub atoms : atoms h ≤ atoms f
  pub degree : (v : ℕ → ℕ) → degree v h ≤ n * degree v f
  pub size : (d : ℕ) → IsWhole r d f → size r d f ^ n ≤ 2 ^ 126 → size r (d ^ n) h ≤ size r d f ^ n

-- no atom has an exponent past 2^32 - 1 in a monomial of the power
pub record HasSmallPower {C : Type 0} (f : Form C) (n : ℕ) : Type 0 where
  pub exponents : (k : ℕ) → n * exponent k f < 2 ^ 32
