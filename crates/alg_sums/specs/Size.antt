-- The size of an element over a common denominator.
use Rattle.std.specs.Prelude.{◌≡◌, ℕ, ◌+◌, ◌≤◌, List, [], ◌∷◌, ◌*◌, ◌/◌, ◌%◌, ◌^◌, ◌==◌, Bool, cond}
use Rattle.alg_sums.specs.Coefficients.{Coefficients}

-- whether d times the element is whole
unfoldable pub is_whole : {C : Type 0} → Coefficients C → ℕ → C → Bool
is_whole r d a = d % r.bottom a == 0

-- the absolute value times d, and a number past 2^126 where that product is not whole
unfoldable pub size_of : {C : Type 0} → Coefficients C → ℕ → C → ℕ
size_of r d a = cond (d % r.bottom a == 0) (r.top a * (d / r.bottom a)) (2 ^ 127)

-- d times the element is whole, and n is its absolute value
pub record IsScaled {C : Type 0} (r : Coefficients C) (d : ℕ) (c : C) (n : ℕ) : Type 0 where
  pub by : ℕ
  pub over : d ≡ by * r.bottom c
  pub size : n ≡ by * r.top c

-- d times each coefficient is whole, and the absolute values sum to at most w
abbrev pub IsWithin : {K C : Type 0} → Coefficients C → ℕ → List (K × C) → ℕ → Type 0
IsWithin r d [] w = Unit {0}
IsWithin r d (t ∷ p) w = (m : ℕ) × (l : ℕ) × IsScaled r d t.1 m × IsWithin r d p l × (m + l ≤ w)
