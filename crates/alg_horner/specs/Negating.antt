-- The negation of a map, and the number of its terms.
use Rattle.std.specs.Prelude.{◌≡◌, ℕ, ◌<◌, ◌≤◌, ◌^◌, cond, nat_le, List}
use Rattle.alg_sums.specs.Coefficients.{Coefficients}
use Rattle.alg_sums.specs.Size.{size_of}
use Rattle.alg_horner.specs.Form.{Form, coefficient, atoms, degree, weigh}

-- one common denominator makes the size of each coefficient small
pub record CanNegateAll {C : Type 0} (r : Coefficients C) (f : Form C) : Type 0 where
  pub denominator : ℕ
  pub positive : 0 < denominator
  pub bounded : denominator ≤ 2 ^ 126
  pub small : weigh (λ c. cond (nat_le (size_of r denominator c) (2 ^ 126)) 0 1) f ≡ 0

-- h has the map of f with each coefficient negated
pub record IsNegativeOf {C : Type 0} (r : Coefficients C) (f h : Form C) : Type 0 where
  pub map : (m : List ℕ) → coefficient r h m ≡ r.minus (coefficient r f m)
  pub atoms : atoms h ≤ atoms f
  pub degree : (v : ℕ → ℕ) → degree v h ≤ degree v f
  pub weight : (w : C → ℕ) → w r.nil ≡ 0 → ((a : C) → w (r.minus a) ≡ w a) → weigh w h ≤ weigh w f

-- how many coefficients are not 0
abbrev pub terms : {C : Type 0} → Coefficients C → Form C → ℕ
terms r f = weigh (λ c. cond (r.is_nil c) 0 1) f
