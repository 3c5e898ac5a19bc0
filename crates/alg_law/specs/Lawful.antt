-- What holds of the classes of every base.
use Rattle.std.specs.Prelude.{◌≡◌, Bool, true, ◌&&◌, ◌||◌, not, List}
use Rattle.alg_terms.specs.declared.sorts.Sort.{Sort}
use Rattle.alg_law.specs.declared.classes.Class.TheVariants.{Group, AddGroup, Semiring, CommSemiring, Ring, CommRing, LinearOrder, CharZero, IsStrictOrderedRing}
use Rattle.alg_law.specs.Declarations.{Declaration}
use Rattle.alg_law.specs.Having.{has_class}

-- CharZero comes with Semiring, IsStrictOrderedRing with Semiring and LinearOrder, and Group never with Semiring; where
-- there are Semiring and AddGroup there is Ring, and where there are CommSemiring and AddGroup there is CommRing
abbrev pub lawful_at : List Declaration → Sort → Bool
lawful_at ds s =
    (not (has_class ds s CharZero) || has_class ds s Semiring)
    && (not (has_class ds s IsStrictOrderedRing) || (has_class ds s Semiring && has_class ds s LinearOrder))
    && not (has_class ds s Group && has_class ds s Semiring)
    && ((not (has_class ds s Semiring && has_class ds s AddGroup) || has_class ds s Ring)
    && (not (has_class ds s CommSemiring && has_class ds s AddGroup) || has_class ds s CommRing))

-- and so at every sort
abbrev pub IsLawful : List Declaration → Type 0
IsLawful ds = (s : Sort) → lawful_at ds s ≡ true
