-- Monomials over a list of atoms, as lists of exponents.
use Rattle.std.specs.Prelude.{◌≡◌, ℕ, zero, suc, ◌+◌, ◌-◌, ◌==◌, Bool, true, false, ◌&&◌, List, [], ◌∷◌}
use Rattle.std.specs.declared.cmp.Ordering.{Ordering}
use Rattle.std.specs.declared.cmp.Ordering.TheVariants.{Less}
use Rattle.alg_sums.specs.Coefficients.{Coefficients}

-- an atom with an exponent before a monomial; with the exponent 0 it is left out
abbrev pub put : {A : Type 0} → A → ℕ → List (A × ℕ) → List (A × ℕ)
put a zero u = u
put a (suc n) u = (a, suc n) ∷ u

-- the monomial of these atoms with these exponents
abbrev pub sparse : {A : Type 0} → List A → List ℕ → List (A × ℕ)
sparse [] d = []
sparse (a ∷ names) [] = []
sparse (a ∷ names) (n ∷ d) = put a n (sparse names d)

-- the atoms rise
abbrev pub IsFirst : {A : Type 0} → (A → A → Ordering) → A → List A → Type 0
IsFirst order a [] = Unit {0}
IsFirst order a (b ∷ names) = (order a b ≡ Less) × IsFirst order a names

abbrev pub AreRising : {A : Type 0} → (A → A → Ordering) → List A → Type 0
AreRising order [] = Unit {0}
AreRising order (a ∷ names) = IsFirst order a names × AreRising order names

-- the exponents add
abbrev pub added : List ℕ → List ℕ → List ℕ
added [] e = []
added (m ∷ d) [] = []
added (m ∷ d) (n ∷ e) = (m + n) ∷ added d e

abbrev pub same_exponents : List ℕ → List ℕ → Bool
same_exponents [] [] = true
same_exponents [] (n ∷ e) = false
same_exponents (m ∷ d) [] = false
same_exponents (m ∷ d) (n ∷ e) = (m == n) && same_exponents d e

-- f 0 + .. + f e
abbrev pub up_to : {C : Type 0} → Coefficients C → ℕ → (ℕ → C) → C
up_to r zero f = f 0
up_to r (suc e) f = r.plus (up_to r e f) (f (suc e))

-- the coefficient of a product of two maps: over all ways to divide the exponents
abbrev pub convolved : {C : Type 0} → Coefficients C → (List ℕ → C) → (List ℕ → C) → List ℕ → C
convolved r f g [] = r.times (f []) (g [])
convolved r f g (e ∷ m) = up_to r e (λ a. convolved r (λ u. f (a ∷ u)) (λ v. g ((e - a) ∷ v)) m)
