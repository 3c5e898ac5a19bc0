-- Which fractions have a numeral in a sort.
use Rattle.std.specs.Prelude.{◌≡◌, ℕ, pos, true, ◌&&◌, List, [], ◌∷◌, ◌⊎◌, ⊤}
use Rattle.alg_terms.specs.declared.sorts.Sort.{Sort}
use Rattle.alg_num.specs.Fraction.{Fraction}
use Rattle.alg_law.specs.declared.classes.Class.TheVariants.{Semiring, Ring, Field, CharZero}
use Rattle.alg_law.specs.Declarations.{Declaration}
use Rattle.alg_law.specs.Having.{has_class}

abbrev pub IsRing : List Declaration → Sort → Type 0
IsRing ds s = has_class ds s Ring ≡ true

abbrev pub IsFieldOfZero : List Declaration → Sort → Type 0
IsFieldOfZero ds s = (has_class ds s Field && has_class ds s CharZero) ≡ true

-- numbers below 0 are in a ring, and those that aren't whole in a field of characteristic zero
pub record Fits (ds : List Declaration) (s : Sort) (p : Fraction) : Type 0 where
  pub semiring : has_class ds s Semiring ≡ true
  pub sign : IsRing ds s ⊎ ((n : ℕ) × (p.numerator ≡ pos n))
  pub over : IsFieldOfZero ds s ⊎ (p.denominator ≡ 1)

-- each fraction in the sort of its place
abbrev pub AllFit : List Declaration → List Sort → List Fraction → Type 0
AllFit ds [] [] = ⊤
AllFit ds [] (p ∷ ps) = ⊥
AllFit ds (s ∷ ss) [] = ⊥
AllFit ds (s ∷ ss) (p ∷ ps) = Fits ds s p × AllFit ds ss ps
