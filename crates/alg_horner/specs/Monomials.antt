-- The monomials of a map, and their number.
use Rattle.std.specs.Prelude.{◌≡◌, ℕ, ◌≤◌, List, [], ◌∷◌, length, ◌⊎◌}
use Rattle.alg_sums.specs.Coefficients.{Coefficients}
use Rattle.alg_horner.specs.Form.{Form, coefficient, atoms}

abbrev pub IsIn : List ℕ → List (List ℕ) → Type 0
IsIn m [] = ⊥
IsIn m (u ∷ us) = (m ≡ u) ⊎ IsIn m us

-- none comes twice
abbrev pub AreApart : List (List ℕ) → Type 0
AreApart [] = Unit {0}
AreApart (u ∷ us) = (IsIn u us → ⊥) × AreApart us

-- exactly the monomials in the first k atoms whose coefficient is not nil, each once
pub record AreMonomials {C : Type 0} (r : Coefficients C) (f : List ℕ → C) (k : ℕ) (ms : List (List ℕ)) : Type 0 where
  pub each : (m : List ℕ) → IsIn m ms → (length m ≡ k) × (f m ≡ r.nil → ⊥)
  pub all : (m : List ℕ) → length m ≡ k → (f m ≡ r.nil → ⊥) → IsIn m ms
  pub apart : AreApart ms

-- the form's map has n monomials, in as many atoms as the form has or more
pub record HasTerms {C : Type 0} (r : Coefficients C) (f : Form C) (n : ℕ) : Type 0 where
  pub monomials : (k : ℕ) → atoms f ≤ k → (ms : List (List ℕ)) × AreMonomials r (coefficient r f) k ms × (length ms ≡ n)
