-- Sparse Horner forms (Grégoire and Mahboubi 2005), and their maps from monomials to coefficients.
use Rattle.std.specs.Prelude.{◌≡◌, ℕ, Bool, true, cond, ◌&&◌, ◌==◌, ◌+◌, ◌-◌, ◌*◌, ◌<◌, ◌≤◌, ◌^◌, nat_le, List, [], ◌∷◌, take, drop, max}
use Rattle.alg_sums.specs.Coefficients.{Coefficients}
use Rattle.alg_sums.specs.Size.{is_whole, size_of}

-- a constant; a form over the atoms after the first k; inner * x^power + rest, where x is the first atom and rest a form over the atoms after it
pub data Form (C : Type 0) : Type 0 where
  constant : C → Form C
  skip : ℕ → Form C → Form C
  sum : Form C → ℕ → Form C → Form C

-- a monomial is the list of the exponents of the atoms in order; those that are missing are 0
abbrev pub first : List ℕ → ℕ
first [] = 0
first (e ∷ m) = e

abbrev pub others : List ℕ → List ℕ
others [] = []
others (e ∷ m) = m

abbrev pub is_one : List ℕ → Bool
is_one [] = true
is_one (e ∷ m) = (e == 0) && is_one m

-- the coefficient of a monomial
abbrev pub coefficient : {C : Type 0} → Coefficients C → Form C → List ℕ → C
coefficient r (constant c) m = cond (is_one m) c r.nil
coefficient r (skip k h) m = cond (is_one (take k m)) (coefficient r h (drop k m)) r.nil
coefficient r (sum p i q) m =
    r.plus (cond (nat_le i (first m)) (coefficient r p ((first m - i) ∷ others m)) r.nil) (cond (first m == 0) (coefficient r q (others m)) r.nil)

abbrev pub IsSameMap : {C : Type 0} → Coefficients C → Form C → Form C → Type 0
IsSameMap r f g = (m : List ℕ) → coefficient r f m ≡ coefficient r g m

abbrev pub IsSum : {C : Type 0} → Form C → Type 0
IsSum (constant c) = ⊥
IsSum (skip k h) = ⊥
IsSum (sum p i q) = Unit {0}

-- x divides the form: it is inner * x^power + 0
abbrev pub IsMultiple : {C : Type 0} → Coefficients C → Form C → Type 0
IsMultiple r (constant c) = ⊥
IsMultiple r (skip k h) = ⊥
IsMultiple r (sum p i q) = q ≡ constant r.nil

-- no skip of 0 atoms, of a constant or of a skip; no zero part before a power, and none that x divides
abbrev pub IsForm : {C : Type 0} → Coefficients C → Form C → Type 0
IsForm r (constant c) = Unit {0}
IsForm r (skip k h) = (0 < k) × IsSum h × IsForm r h
IsForm r (sum p i q) = (0 < i) × (p ≡ constant r.nil → ⊥) × (IsMultiple r p → ⊥) × IsForm r p × IsForm r q

abbrev pub nodes : {C : Type 0} → Form C → ℕ
nodes (constant c) = 1
nodes (skip k h) = nodes h + 1
nodes (sum p i q) = nodes p + nodes q + 1

-- one more than the greatest atom, and 0 where there is none
abbrev pub atoms : {C : Type 0} → Form C → ℕ
atoms (constant c) = 0
atoms (skip k h) = k + atoms h
atoms (sum p i q) = max (atoms p) (atoms q + 1)

-- weights of atoms, from the k-th atom on
abbrev pub shifted : ℕ → (ℕ → ℕ) → ℕ → ℕ
shifted k v n = v (k + n)

-- the greatest degree of a monomial, where each factor of the n-th atom counts v n
abbrev pub degree : {C : Type 0} → (ℕ → ℕ) → Form C → ℕ
degree v (constant c) = 0
degree v (skip k h) = degree (shifted k v) h
degree v (sum p i q) = max (degree v p + i * v 0) (degree (shifted 1 v) q)

-- the n-th atom alone counts
abbrev pub only : ℕ → ℕ → ℕ
only n m = cond (m == n) 1 0

-- the greatest exponent of the n-th atom in a monomial
abbrev pub exponent : {C : Type 0} → ℕ → Form C → ℕ
exponent n f = degree (only n) f

-- the coefficients' weights, added
abbrev pub weigh : {C : Type 0} → (C → ℕ) → Form C → ℕ
weigh w (constant c) = w c
weigh w (skip k h) = weigh w h
weigh w (sum p i q) = weigh w p + weigh w q

-- the sizes of the coefficients, added
abbrev pub size : {C : Type 0} → Coefficients C → ℕ → Form C → ℕ
size r d h = weigh (size_of r d) h

-- d times each coefficient is whole
abbrev pub IsWhole : {C : Type 0} → Coefficients C → ℕ → Form C → Type 0
IsWhole r d h = weigh (λ c. cond (is_whole r d c) 0 1) h ≡ 0

-- the weights of the products of each coefficient of f and each of g, added
abbrev pub cost : {C : Type 0} → Coefficients C → (C → ℕ) → Form C → Form C → ℕ
cost r w f g = weigh (λ a. weigh (λ b. w (r.times a b)) g) f

-- nil weighs nothing, and a sum no more than its parts, as long as these are small
pub record IsSubadditive {C : Type 0} (r : Coefficients C) (w : C → ℕ) : Type 0 where
  pub nil : w r.nil ≡ 0
  pub plus : (a b : C) → w a + w b ≤ 2 ^ 126 → w (r.plus a b) ≤ w a + w b

-- what each form that the calls make keeps
pub record IsSound {C : Type 0} (r : Coefficients C) (f : Form C) : Type 0 where
  pub form : IsForm r f
  pub atoms : atoms f ≤ 2 ^ 32
  pub exponents : (n : ℕ) → exponent n f < 2 ^ 32
